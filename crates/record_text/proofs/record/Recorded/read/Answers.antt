use Rattle.record_text.proofs.KindLaws.{only_read}
use Rattle.record_text.proofs.record.Recorded.read.Goals as goal

pub returns-clause-only : goal.returns-clause-only
returns-clause-only g c = λ r s. only_read g.L.RecordLine.kind c.text_law.ensures.record c.text_law.ensures.apart
    c.args.text.now r c.read_text.result c.read_text.ensures.found c.read_text.ensures.fault s
