use Rattle.record_text.proofs.KindLaws.{spells_one, spells_no_fault, first_fault_is_one}
use Rattle.record_text.proofs.record.text_law.Goals as goal

pub returns-clause-record : goal.returns-clause-record
returns-clause-record g c = spells_one c.known.ensures

pub returns-clause-fault : goal.returns-clause-fault
returns-clause-fault g c = first_fault_is_one c.known.ensures

pub returns-clause-apart : goal.returns-clause-apart
returns-clause-apart g c = spells_no_fault c.known.ensures
