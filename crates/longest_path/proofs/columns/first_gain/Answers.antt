use Rattle.std.proofs.Common.{ℕ, ◌<◌, w32, SFits}
use Rattle.std.proofs.lemmas.Int.{to_z-of_z}
use Rattle.longest_path.specs.Matrix.{GainsNothingAt}
use Rattle.longest_path.proofs.Over.{one_more}
use Rattle.longest_path.proofs.columns.first_gain.Goals as goal

pub gains-requires-clause-fits : goal.gains-requires-clause-fits
gains-requires-clause-fits c = let ff : SFits w32 c.args.first = c.ranges.first in simp to_z-of_z c.requires.fits

pub loop-b-preserved : goal.loop-b-preserved
loop-b-preserved c =
    let ff : SFits w32 c.args.first = c.ranges.first in
    let here : GainsNothingAt c.args.first c.args.via.now c.args.row.now c.loop-b.b = simp to_z-of_z at c.if-gains.ensures in
    let before : (k : ℕ) → k < c.loop-b.b → GainsNothingAt c.args.first c.args.via.now c.args.row.now k = simp to_z-of_z at c.loop-b.invariant in
    simp to_z-of_z (one_more c.loop-b.b c.args.first c.args.via.now c.args.row.now before here)
