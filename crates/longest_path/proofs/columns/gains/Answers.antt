use Rattle.std.proofs.Common.{rules, ◌≡◌, pos, Some, arith, w32, get_or, ap, ◌≤ℤ◌, SFits}
use Rattle.std.proofs.lemmas.Int.{to_z-of_z, ints}
use Rattle.std.proofs.lemmas.List.{get_or_default}
use Rattle.longest_path.specs.Matrix.{joined, nothing, weight_of, weight_at}
use Rattle.longest_path.proofs.Cells.{small_sum}
use Rattle.longest_path.proofs.Over.{gain_test}
use Rattle.longest_path.proofs.columns.gains.Goals as goal

pub sum-requires : goal.sum-requires
sum-requires c =
    let fv : SFits w32 (get_or c.args.via.now c.args.b (pos 0)) = search rules in
    let ff : SFits w32 c.args.first = c.ranges.first in
    simp to_z-of_z (small_sum c.args.first c.args.via.now c.args.b (omega arith) c.requires.fits)

pub returns : goal.returns
returns c =
    let fv : SFits w32 (get_or c.args.via.now c.args.b (pos 0)) = search rules in
    let fr : SFits w32 (get_or c.args.row.now c.args.b (pos 0)) = search rules in
    let ff : SFits w32 c.args.first = c.ranges.first in
    let fs : SFits w32 c.sum.result = search rules in
    let low : nothing ≤ℤ get_or c.args.row.now c.args.b (pos 0) = omega (arith, ints, fr.sfits) in
    let here : weight_of (get_or c.args.row.now c.args.b (pos 0)) ≡ weight_at c.args.row.now c.args.b =
    ap weight_of (get_or_default c.args.row.now c.args.b (pos 0) nothing c.requires.column) in
    let summed : weight_of c.sum.result ≡ joined (Some c.args.first) (weight_of (get_or c.args.via.now c.args.b (pos 0))) = simp to_z-of_z at c.sum.ensures in
    let is : weight_of c.sum.result ≡ joined (Some c.args.first) (weight_at c.args.via.now c.args.b) =
    rw (get_or_default c.args.via.now c.args.b (pos 0) nothing (omega arith)) at summed in
    simp to_z-of_z (gain_test c.args.first c.args.via.now c.args.row.now c.args.b (get_or c.args.row.now c.args.b (pos 0)) c.sum.result low here is)
