use Rattle.std.proofs.Common.{ℕ, ◌≤◌, ◌-◌, arith, w32, SFits}
use Rattle.std.proofs.lemmas.Int.{to_z-of_z}
use Rattle.longest_path.specs.Matrix.{GainsNothingAt}
use Rattle.longest_path.proofs.Over.{one_less}
use Rattle.longest_path.proofs.columns.end_of_gains.Goals as goal

pub gains-requires-clause-fits : goal.gains-requires-clause-fits
gains-requires-clause-fits c = let ff : SFits w32 c.args.first = c.ranges.first in simp to_z-of_z c.requires.fits

pub loop-end-preserved : goal.loop-end-preserved
loop-end-preserved c =
    let ff : SFits w32 c.args.first = c.ranges.first in
    let here : GainsNothingAt c.args.first c.args.via.now c.args.row.now (c.loop-end.end - 1) = simp to_z-of_z at c.if-not-gains.ensures in
    let after : (k : ℕ) → c.loop-end.end ≤ k → GainsNothingAt c.args.first c.args.via.now c.args.row.now k = simp to_z-of_z at c.loop-end.invariant.after in
    record {
      low = omega arith;
      inside = omega arith;
      after = simp to_z-of_z (one_less c.loop-end.end c.args.first c.args.via.now c.args.row.now (omega arith) after here);
    }
