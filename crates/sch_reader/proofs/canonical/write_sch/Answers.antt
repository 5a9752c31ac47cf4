use Rattle.sch_reader.proofs.CanonicalText.{canonical_spells}
use Rattle.sch_reader.proofs.canonical.write_sch.Goals as goal

pub returns-clause-spells : goal.returns-clause-spells
returns-clause-spells c = canonical_spells

pub returns-in_err-text-clause-spells : goal.returns-in_err-text-clause-spells
returns-in_err-text-clause-spells c = canonical_spells
