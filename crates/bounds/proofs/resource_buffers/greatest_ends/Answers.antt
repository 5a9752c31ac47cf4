use Rattle.std.proofs.Common.{◌≡◌, refl, ap, ◌∙◌, ℕ, ◌+◌, ◌<◌, ◌≤◌, max, ⊎_elim, pos, get_or, unsigned_abs, rules, arith, below_more, w64, FitsSigned}
use Rattle.std.proofs.lemmas.Bool.{cases_lt}
use Rattle.std.proofs.lemmas.Int.{to_z-of_z}
use Rattle.bounds.specs.Energy.{ends_of}
use Rattle.bounds.proofs.LateWork.{ord_max-max}
use Rattle.bounds.proofs.resource_buffers.greatest_ends.Goals as goal

pub loop-i-preserved : goal.loop-i-preserved
loop-i-preserved c =
    let i : ℕ = c.loop-i.i in
    let head_fits : FitsSigned w64 (get_or c.args.heads.now i (pos 0)) = search rules in
    let tail_fits : FitsSigned w64 (get_or c.args.tails.now i (pos 0)) = search rules in
    let head_is : c.unsigned_abs.result ≡ unsigned_abs (get_or c.args.heads.now i (pos 0)) =
    c.unsigned_abs.ensures.value ∙ ap unsigned_abs (to_z-of_z w64 (get_or c.args.heads.now i (pos 0)) head_fits) in
    let tail_is : c.unsigned_abs-in-loop-i.result ≡ unsigned_abs (get_or c.args.tails.now i (pos 0)) =
    c.unsigned_abs-in-loop-i.ensures.value
    ∙ ap unsigned_abs (to_z-of_z w64 (get_or c.args.tails.now i (pos 0)) tail_fits) in
    let is : c.max-greatest.result ≡ max c.loop-i.greatest (c.unsigned_abs.result + c.unsigned_abs-in-loop-i.result) =
    c.max-greatest.ensures ∙ ord_max-max c.loop-i.greatest (c.unsigned_abs.result + c.unsigned_abs-in-loop-i.result)
    in
    let here : c.unsigned_abs.result + c.unsigned_abs-in-loop-i.result ≡ ends_of c.args.heads.now c.args.tails.now i = rw (head_is, tail_is) refl in
    let above : (k : ℕ) → k < i + 1 → ends_of c.args.heads.now c.args.tails.now k ≤ c.max-greatest.result =
    below_more (λ k. ends_of c.args.heads.now c.args.tails.now k ≤ c.max-greatest.result) i
    (λ k lt. omega (arith, is, c.loop-i.invariant.above k lt)) (omega (arith, is, here)) in
    ⊎_elim
    (λ (more : c.loop-i.greatest < c.unsigned_abs.result + c.unsigned_abs-in-loop-i.result).
    record { activity = i; there = omega arith; reached = omega (arith, is, here, more); above = above })
    (λ (less : c.unsigned_abs.result + c.unsigned_abs-in-loop-i.result ≤ c.loop-i.greatest).
    record {
      activity = c.loop-i.invariant.activity;
      there = c.loop-i.invariant.there;
      reached =
          omega (arith, is, less, c.loop-i.invariant.reached);
      above = above;
    })
    (cases_lt c.loop-i.greatest (c.unsigned_abs.result + c.unsigned_abs-in-loop-i.result))
