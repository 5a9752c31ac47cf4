use Rattle.std.proofs.Common.{rules, refl, ◌≡◌, ◌∙◌, ap, pos, w64, FitsSigned, Option, Some, ℤ, ◌-ℤ◌, arith, to_z, of_z}
use Rattle.std.specs.Option.{unwrap_or}
use Rattle.std.proofs.lemmas.Int.{ints, to_z-of_z}
use Rattle.longest_path.specs.declared.insert.TheConstants.{MAX_WAY_WITH}
use Rattle.longest_path.proofs.Ends.{difference_fits}
use Rattle.network.specs.Problem.{duration, end_of}
use Rattle.network.specs.Walk.{entry}
use Rattle.longest_path.specs.Matrix.{greater, joined}
use Rattle.longest_path.specs.Insert.{entry_over}
use Rattle.bounds.proofs.Ranked.{set_more}
use Rattle.bounds.proofs.WithLaws.{tails_over, joined_late}
use Rattle.bounds.proofs.with_pair.list_tails_with.Goals as goal

pub loop-i-preserved : goal.loop-i-preserved
loop-i-preserved c =
    let p = c.args.project.now in
    let rows = c.args.matrix.now in
    let to_fits : FitsSigned w64 c.unwrap_or-to_end.result = search rules in
    let duration_fits : FitsSigned w64 c.duration.result = search rules in
    let arc : to_z w64 (of_z w64 c.args.arc.weight) ≡ c.args.arc.weight = search rules in
    let made : c.or_way.result ≡ greater (entry rows c.loop-i.i (end_of p))
    (joined (entry rows c.loop-i.i c.args.arc.from)
    (joined (entry rows c.args.arc.to (end_of p)) (Some c.args.arc.weight))) =
    simp (
      c.or_way.ensures.value,
      c.then_arc-last.ensures.sum,
      c.get.ensures.value,
      c.get-in-loop-i.ensures.value,
      c.get-in-loop-i-2.ensures.value,
      c.activity_count-end.ensures.value,
      arc,
    ) refl in
    let is : c.or_way.result ≡ entry_over c.args.arc rows c.loop-i.i (end_of p) = made
    ∙ ap (λ (o : Option ℤ). greater (entry rows c.loop-i.i (end_of p)) o)
    (joined_late (entry rows c.loop-i.i c.args.arc.from) (entry rows c.args.arc.to (end_of p)) c.args.arc.weight) in
    let weight_is : c.unwrap_or-to_end.result ≡ unwrap_or (entry_over c.args.arc rows c.loop-i.i (end_of p)) (pos 0) =
    c.unwrap_or-to_end.ensures ∙ ap (λ (o : Option ℤ). unwrap_or o (pos 0)) is in
    let fits : FitsSigned w64 (c.unwrap_or-to_end.result -ℤ c.duration.result) =
    rw c.unwrap_or-to_end.ensures (difference_fits MAX_WAY_WITH c.or_way.result c.duration.result
    (omega (arith, ints)) c.or_way.ensures.small c.duration.ensures.amount) in
    let value : c.unwrap_or-to_end.result -ℤ c.duration.result ≡ unwrap_or
    (entry_over c.args.arc rows c.loop-i.i (end_of p)) (pos 0) -ℤ duration p c.loop-i.i =
    rw (weight_is, c.duration.ensures.value) refl in
    set_more (pos 0) (λ k. unwrap_or (entry_over c.args.arc rows k (end_of p)) (pos 0) -ℤ duration p k) c.loop-i.tails
    c.loop-i.i _ (omega arith) c.loop-i.invariant
    (simp to_z-of_z value)

pub returns : goal.returns
returns c = tails_over c.args.project.now c.args.arc c.args.matrix.now c.loop-i.tails c.requires.project
    (c.loop-i.auto.tails ∙ c.requires.long) (λ k lt. c.loop-i.invariant k (omega arith))
