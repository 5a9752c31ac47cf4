use Rattle.lemma_record.proofs.Parted.{parts_make_whole}
use Rattle.lemma_record.proofs.law.parts_law.Goals as goal

pub returns : goal.returns
returns c = parts_make_whole
