use Rattle.std.proofs.Common.{rules, ◌+ℤ◌, w64, FitsSigned}
use Rattle.std.proofs.lemmas.Int.{to_z-of_z}
use Rattle.network.specs.Problem.{IsWithin}
pub use Rattle.longest_path.specs.declared.grid.TheConstants.{MAX_FIRST_WEIGHT}
use Rattle.longest_path.specs.declared.insert.TheConstants.{MAX_WAY_WITH}
use Rattle.longest_path.proofs.Over.{way_small, way_fits}
use Rattle.longest_path.proofs.insert.or_way.Goals as goal

pub returns-in_default-weight-clause-small : goal.returns-in_default-weight-clause-small
returns-in_default-weight-clause-small c =
    let fx : FitsSigned w64 c.in-Some-Some.first = search rules in
    let fy : FitsSigned w64 c.in-Some-Some.last = search rules in
    let first : IsWithin MAX_FIRST_WEIGHT c.in-Some-Some.first = rw c.in-Some-Some.is-0 at c.requires.first in
    let last : IsWithin MAX_FIRST_WEIGHT c.in-Some-Some.last = rw c.in-Some-Some.is-1 at c.requires.last in
    let small : IsWithin MAX_WAY_WITH (c.in-Some-Some.first +ℤ c.in-Some-Some.last) = way_small c.in-Some-Some.first c.in-Some-Some.last first last in
    let fits : FitsSigned w64 (c.in-Some-Some.first +ℤ c.in-Some-Some.last) = way_fits (c.in-Some-Some.first +ℤ c.in-Some-Some.last) small in
    simp to_z-of_z small
