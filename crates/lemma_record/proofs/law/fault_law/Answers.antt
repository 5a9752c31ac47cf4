use Rattle.lemma_record.proofs.Refuted.{fault_is_wrong}
use Rattle.lemma_record.proofs.law.fault_law.Goals as goal

pub returns : goal.returns
returns c = fault_is_wrong
