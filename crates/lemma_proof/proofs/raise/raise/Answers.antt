use Rattle.std.proofs.Common.{rules, arith, ◌≡◌, ◌+ℤ◌, ◌<◌, pos, w32, get_or, length, SFits}
use Rattle.std.specs.Int.{int_max}
use Rattle.std.proofs.lemmas.Int.{ints, to_z-of_z}
use Rattle.network.specs.Problem.{IsWithin}
use Rattle.network.specs.Schedule.{start}
use Rattle.network.specs.declared.limits.TheConstants.{MAX_WALK_WEIGHT}
use Rattle.lemma_proof.proofs.Raising.{none_raised, raised_more}
use Rattle.lemma_proof.proofs.raise.raise.Goals as goal

pub loop-k-init : goal.loop-k-init
loop-k-init c = none_raised _ _ _

pub loop-k-preserved : goal.loop-k-preserved
loop-k-preserved c =
    let k = c.loop-k.k in
    let low : c.loop-k.k < length c.args.via.now = omega arith in
    let by_fits : SFits w32 c.args.by = c.ranges.by in
    let via_small : IsWithin MAX_WALK_WEIGHT (start c.args.via.now c.loop-k.k) = c.requires.via k low in
    let via_fits : SFits w32 (get_or c.args.via.now c.loop-k.k (pos 0)) = search rules in
    let row_fits : SFits w32 (get_or c.loop-k.row c.loop-k.k (pos 0)) = search rules in
    let sum_fits : SFits w32 (c.args.by +ℤ get_or c.args.via.now c.loop-k.k (pos 0)) =
    omega (arith, ints, c.requires.by.at_least, c.requires.by.at_most, via_small.at_least, via_small.at_most) in
    let max_fits : SFits w32 c.max.result = search rules in
    let new : c.max.result ≡ int_max (start c.loop-k.row c.loop-k.k) (c.args.by +ℤ start c.args.via.now c.loop-k.k) = simp to_z-of_z at c.max.ensures.value in
    simp to_z-of_z (raised_more k c.args.by c.max.result c.args.via.now c.args.row.now c.loop-k.row (simp to_z-of_z at c.loop-k.invariant) (omega arith) new)

pub returns-clause-raised : goal.returns-clause-raised
returns-clause-raised c = λ k less.
    let by_fits : SFits w32 c.args.by = c.ranges.by in
    (simp to_z-of_z at c.loop-k.invariant).done k (omega arith)
