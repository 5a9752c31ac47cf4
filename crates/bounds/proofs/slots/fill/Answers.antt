use Rattle.std.proofs.Common.{◌+◌, ℕ, List, ◌-◌, get_or, set, arith}
use Rattle.bounds.proofs.Widths.{IsFilling, filling_more, filling_inside, filling_end}
use Rattle.bounds.proofs.slots.fill.Goals as goal

pub loop-widths-preserved : goal.loop-widths-preserved
loop-widths-preserved c =
    let old : List ℕ = c.args.widths.now in
    let mid : List ℕ = c.loop-widths.widths in
    let place : ℕ = c.loop-widths.place in
    let left : ℕ = c.loop-widths.left - get_or mid place 0 in
    let more : IsFilling c.args.start c.args.work (place + 1) left old (set mid place 0) =
    filling_more c.args.start c.args.work place c.loop-widths.left old mid c.loop-widths.invariant.filling
    c.loop-widths.invariant.inside c.loop-widths-test.true in
    record {
      filling = more;
      inside = filling_inside c.args.start c.args.work (place + 1) left old (set mid place 0) more c.requires.enough
          (omega (arith, c.loop-widths.invariant.inside));
    }

pub returns : goal.returns
returns c =
    filling_end c.args.start c.args.work c.loop-widths.place c.loop-widths.left c.args.widths.now c.loop-widths.widths
    c.loop-widths.invariant.filling c.loop-widths.invariant.inside c.loop-widths-test.false
