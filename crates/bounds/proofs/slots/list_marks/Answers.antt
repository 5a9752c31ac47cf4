use Rattle.std.proofs.Common.{arith}
use Rattle.bounds.proofs.LateWork.{line_written}
use Rattle.bounds.proofs.slots.list_marks.Goals as goal

pub returns : goal.returns
returns c = line_written c.args.capacity c.args.tails.now c.loop-place.line (omega arith) (λ q lt. c.loop-place.invariant q (omega arith))
