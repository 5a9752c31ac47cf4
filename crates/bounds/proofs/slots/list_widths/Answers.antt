use Rattle.std.proofs.Common.{◌≤◌, ℕ, ◌+◌, get_or, arith}
use Rattle.bounds.proofs.Widths.{widths_more}
use Rattle.bounds.proofs.slots.list_widths.Goals as goal

pub loop-place-preserved : goal.loop-place-preserved
loop-place-preserved c =
    let i : ℕ = c.loop-place.place in
    let up : get_or c.args.line.now i 0 ≤ get_or c.args.line.now (i + 1) 0 = c.requires.rising i (i + 1) 0 (omega arith) (omega arith) in
    widths_more c.args.line.now c.loop-place.widths i (omega arith) up c.loop-place.invariant
