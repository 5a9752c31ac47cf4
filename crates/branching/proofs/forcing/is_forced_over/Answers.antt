use Rattle.std.proofs.Common.{◌≡◌, false, sym, ◌∙◌, rules, w64, ◌+ℤ◌, Some, None, SFits}
use Rattle.std.proofs.lemmas.Int.{to_z-of_z}
use Rattle.std.specs.Bool.{IsTrue}
use Rattle.network.specs.Walk.{entry}
use Rattle.longest_path.specs.Matrix.{greater}
use Rattle.branching.proofs.Forcings.{forced_over, no_way, none_from}
use Rattle.branching.proofs.forcing.is_forced_over.Goals as goal

pub returns-in_default : goal.returns-in_default
returns-in_default c =
    let last : entry c.args.matrix.now c.args.added.after c.args.pair.after ≡ None = sym c.get.ensures.value ∙ c.in_default.is in (
      λ (bad : IsTrue false). cc,
      λ holds. absurd
          (no_way c.args.project.now c.args.matrix.now c.args.added c.args.pair
          (none_from c.args.project.now c.args.matrix.now c.args.added c.args.pair last) holds),
    )

pub returns : goal.returns
returns c =
    let last : entry c.args.matrix.now c.args.added.after c.args.pair.after ≡ Some c.in-Some.last = sym c.get.ensures.value ∙ c.in-Some.is in
    let first_fits : SFits w64 c.args.first = search rules in
    let last_fits : SFits w64 c.in-Some.last = search rules in
    let greatest : c.or_way.result ≡ greater (entry c.args.matrix.now c.args.pair.before c.args.pair.after)
    (Some (c.args.first +ℤ c.in-Some.last)) =
    rw c.get-way.ensures.value at (simp to_z-of_z at c.or_way.ensures.value) in
    forced_over c.args.project.now c.args.matrix.now c.args.added c.args.pair c.args.first c.in-Some.last
    c.requires.first last (rw greatest at c.is_forced_at.ensures)
