use Rattle.std.proofs.Common.{rules, refl, ◌≡◌, ◌∙◌, ap, pos, w64, FitsSigned, Option, ℤ, arith, to_z, of_z}
use Rattle.std.specs.Option.{unwrap_or}
use Rattle.std.proofs.lemmas.Int.{to_z-of_z}
use Rattle.longest_path.specs.Insert.{entry_over}
use Rattle.bounds.proofs.Ranked.{set_more}
use Rattle.bounds.proofs.WithLaws.{heads_over}
use Rattle.bounds.proofs.with_pair.list_heads_with.Goals as goal

pub loop-i-preserved : goal.loop-i-preserved
loop-i-preserved c =
    let fits : FitsSigned w64 c.unwrap_or.result = search rules in
    let arc : to_z w64 (of_z w64 c.args.arc.weight) ≡ c.args.arc.weight = search rules in
    let is : c.or_way.result ≡ entry_over c.args.arc c.args.matrix.now 0 c.loop-i.i =
    simp (
      c.or_way.ensures.value,
      c.then_arc-first.ensures.sum,
      c.get.ensures.value,
      c.get-in-loop-i.ensures.value,
      c.get-in-loop-i-2.ensures.value,
      arc,
    ) refl in
    set_more (pos 0) (λ k. unwrap_or (entry_over c.args.arc c.args.matrix.now 0 k) (pos 0)) c.loop-i.heads c.loop-i.i _ (omega arith) c.loop-i.invariant
    (to_z-of_z w64 c.unwrap_or.result fits ∙ c.unwrap_or.ensures ∙ ap (λ (o : Option ℤ). unwrap_or o (pos 0)) is)

pub returns : goal.returns
returns c = heads_over c.args.arc c.args.matrix.now c.loop-i.heads (c.loop-i.auto.heads ∙ c.requires.long) (λ k lt. c.loop-i.invariant k (omega arith))
