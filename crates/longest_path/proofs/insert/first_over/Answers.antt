use Rattle.std.proofs.Common.{rules, ◌≡◌, ◌+ℤ◌, Some, refl, sym, ◌∙◌, w64, SFits}
use Rattle.std.proofs.lemmas.Int.{to_z-of_z}
use Rattle.network.specs.Walk.{entry}
use Rattle.longest_path.specs.Insert.{EndGains}
use Rattle.longest_path.specs.Matrix.{Reaches}
use Rattle.longest_path.proofs.Reach.{joined-some}
use Rattle.longest_path.proofs.Over.{one_sum_fits, reached_at}
use Rattle.longest_path.proofs.insert.first_over.Goals as goal

pub returns-then-is_reached : goal.returns-then-is_reached
returns-then-is_reached c = λ w e.
    let read : entry c.args.grid.now c.args.a c.args.arc.from ≡ Some c.in_ok-first.field-0 = sym c.get.ensures ∙ c.in_ok-first.was in
    let fw : SFits w64 c.in_ok-first.field-0 = search rules in
    let fa : SFits w64 c.args.arc.weight = search rules in
    let fs : SFits w64 (c.in_ok-first.field-0 +ℤ c.args.arc.weight) =
    one_sum_fits c.in_ok-first.field-0 c.args.arc.weight (c.requires.entry_fits c.in_ok-first.field-0 read)
    c.requires.light in
    let there : Reaches (c.in_ok-first.field-0 +ℤ c.args.arc.weight) c.get-2.result = simp to_z-of_z at c.if-is_reached.ensures in
    let reached : Reaches (c.in_ok-first.field-0 +ℤ c.args.arc.weight) (entry c.args.grid.now c.args.a c.args.arc.to) = rw c.get-2.ensures at there in
    reached_at c.in_ok-first.field-0 c.args.arc.weight w (entry c.args.grid.now c.args.a c.args.arc.from)
    (entry c.args.grid.now c.args.a c.args.arc.to) read e reached

pub returns-else-is_reached : goal.returns-else-is_reached
returns-else-is_reached c =
    let read : entry c.args.grid.now c.args.a c.args.arc.from ≡ Some c.in_ok-first.field-0 = sym c.get.ensures ∙ c.in_ok-first.was in
    let fw : SFits w64 c.in_ok-first.field-0 = search rules in
    let fa : SFits w64 c.args.arc.weight = search rules in
    let fs : SFits w64 (c.in_ok-first.field-0 +ℤ c.args.arc.weight) =
    one_sum_fits c.in_ok-first.field-0 c.args.arc.weight (c.requires.entry_fits c.in_ok-first.field-0 read)
    c.requires.light in
    let none : Reaches (c.in_ok-first.field-0 +ℤ c.args.arc.weight) c.get-2.result → ⊥ = simp to_z-of_z at c.if-is_reached.ensures in
    let more : Reaches (c.in_ok-first.field-0 +ℤ c.args.arc.weight) (entry c.args.grid.now c.args.a c.args.arc.to) → ⊥ = rw c.get-2.ensures at none in
    let gains : EndGains c.args.arc c.args.grid.now c.args.a (c.in_ok-first.field-0 +ℤ c.args.arc.weight) = record {
      over = joined-some c.in_ok-first.field-0 c.args.arc.weight (entry c.args.grid.now c.args.a c.args.arc.from) (Some c.args.arc.weight) read refl;
      more = more;
    } in
    simp to_z-of_z gains

pub overflow_add-first : goal.overflow_add-first
overflow_add-first c =
    let read : entry c.args.grid.now c.args.a c.args.arc.from ≡ Some c.in_ok-first.field-0 = sym c.get.ensures ∙ c.in_ok-first.was in
    let fw : SFits w64 c.in_ok-first.field-0 = search rules in
    let fa : SFits w64 c.args.arc.weight = search rules in
    simp to_z-of_z (one_sum_fits c.in_ok-first.field-0 c.args.arc.weight (c.requires.entry_fits c.in_ok-first.field-0 read) c.requires.light)
