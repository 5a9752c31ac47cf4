use Rattle.record_text.proofs.TextLaws.{facts}
use Rattle.record_text.proofs.search.LineRecordLineClaim.known.Goals as goal

pub returns : goal.returns
returns c = facts
