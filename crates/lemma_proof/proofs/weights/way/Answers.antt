use Rattle.std.proofs.Common.{rules, ◌+ℤ◌, w64, SFits}
use Rattle.std.proofs.lemmas.Int.{to_z-of_z}
pub use Rattle.network.specs.declared.limits.TheConstants.{MAX_WALK_WEIGHT}
use Rattle.network.specs.Problem.{IsWithin}
pub use Rattle.lemma_proof.specs.declared.weights.TheConstants.{MAX_WAY_WEIGHT}
use Rattle.lemma_proof.proofs.Weighing.{way_small, part_fits, way_fits}
use Rattle.lemma_proof.proofs.weights.way.Goals as goal

pub returns-in-Some-Some-clause-small : goal.returns-in-Some-Some-clause-small
returns-in-Some-Some-clause-small c =
    let x = c.in-Some-Some.first in
    let first_fits : SFits w64 c.in-Some-Some.first = search rules in
    let last_fits : SFits w64 c.in-Some-Some.last = search rules in
    let arc_fits : SFits w64 c.args.arc = search rules in
    let first : IsWithin MAX_WALK_WEIGHT c.in-Some-Some.first = rw c.in-Some-Some.is-0 at c.requires.first in
    let last : IsWithin MAX_WALK_WEIGHT c.in-Some-Some.last = rw c.in-Some-Some.is-1 at c.requires.last in
    let part : SFits w64 (c.in-Some-Some.first +ℤ c.args.arc) = part_fits x c.args.arc first c.requires.arc in
    let small : IsWithin MAX_WAY_WEIGHT ((c.in-Some-Some.first +ℤ c.args.arc) +ℤ c.in-Some-Some.last) =
    way_small x c.args.arc c.in-Some-Some.last first c.requires.arc last in
    let whole : SFits w64 ((c.in-Some-Some.first +ℤ c.args.arc) +ℤ c.in-Some-Some.last) = way_fits _ small in
    simp to_z-of_z small
