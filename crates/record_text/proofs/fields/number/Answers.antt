use Rattle.std.proofs.Common.{sym}
use Rattle.record_text.proofs.RowReads.{natural_small}
use Rattle.record_text.proofs.fields.number.Goals as goal

pub returns-clause-small : goal.returns-clause-small
returns-clause-small c = natural_small c.args.word.now c.in_ok-n.n (sym c.in_ok-n.ensures.value)
