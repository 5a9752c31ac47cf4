use Rattle.std.proofs.Common.{◌≡◌, rules, pos, ◌+ℤ◌, false, w64, SFits}
use Rattle.std.specs.Int.Signed.{le_z}
use Rattle.std.proofs.lemmas.Int.{to_z-of_z}
use Rattle.network.specs.Problem.{IsWithin}
pub use Rattle.longest_path.specs.declared.insert.TheConstants.{MAX_WAY_WITH}
use Rattle.branching.proofs.Nodes.{ends_of, way_amount_fits}
use Rattle.branching.proofs.Forcings.{forced_by}
use Rattle.branching.proofs.forcing.is_forced_at.Goals as goal

pub duration-requires-2 : goal.duration-requires-2
duration-requires-2 c = (ends_of c.args.project.now c.args.pair c.requires.named).0

pub returns : goal.returns
returns c =
    let weight_fits : SFits w64 c.in-Some.weight = search rules in
    let after_fits : SFits w64 c.duration.result = search rules in
    let before_fits : SFits w64 c.duration-2.result = search rules in
    let within : IsWithin MAX_WAY_WITH c.in-Some.weight = rw c.in-Some.is at c.requires.small in
    let fits : SFits w64 (c.in-Some.weight +ℤ c.duration.result) = way_amount_fits c.in-Some.weight c.duration.result within c.duration.ensures.amount in
    let above : le_z (c.in-Some.weight +ℤ c.duration.result) (pos 0) ≡ false = simp to_z-of_z at c.if-late-le0.false in
    simp to_z-of_z (forced_by c.args.project.now c.args.pair c.args.greatest c.in-Some.weight c.duration.result
    c.duration-2.result c.in-Some.is c.duration.ensures.value c.duration-2.ensures.value above)
