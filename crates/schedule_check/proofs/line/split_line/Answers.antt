use Rattle.std.proofs.Common.{length}
use Rattle.schedule_check.proofs.StartsTexts.{lines-first, lines-last}
use Rattle.schedule_check.proofs.Tables.{positive}
use Rattle.schedule_check.proofs.line.split_line.Goals as goal

pub returns-in-Some-clause-lines : goal.returns-in-Some-clause-lines
returns-in-Some-clause-lines c =
    rw c.strip_carriage_return.ensures (lines-first c.args.text.now c.in-Some.line.now c.in-Some.rest.now c.in-Some.ensures.pieces)

pub returns-in-None-clause-lines : goal.returns-in-None-clause-lines
returns-in-None-clause-lines c =
    let some = positive (length c.args.text.now) c.is_empty.result c.is_empty.ensures c.if-is_empty.false in
    lines-last c.args.text.now c.in-None.ensures.pieces some
