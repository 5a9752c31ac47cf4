use Rattle.std.proofs.Common.{◌≡◌, ◌+◌, ◌<◌, ◌∙◌, ap, ℕ, ℤ, List, length, get_or, set, pos, inl, inr, arith, get_or-set_same, get_or-set_other}
use Rattle.std.proofs.lemmas.Int.{ints}
use Rattle.std.proofs.lemmas.Bool.{cases_eq}
use Rattle.network.specs.Problem.{duration}
use Rattle.profile.specs.Counts.{end_time}
use Rattle.profile.proofs.counting.list_ends.Goals as goal

set_more : (f : ℕ → ℤ) (xs : List ℤ) (i : ℕ) (v : ℤ) → i < length xs → ((k : ℕ) → k < i → get_or xs k (pos 0) ≡ f k)
    → v ≡ f i → (k : ℕ) → k < i + 1 → get_or (set xs i v) k (pos 0) ≡ f k
set_more f xs i v lt done is k less =
    elim (cases_eq k i) [
      | inl e ↦ rw e (get_or-set_same xs i v (pos 0) lt ∙ is)
      | inr ne ↦ get_or-set_other xs i k v (pos 0) ne ∙ done k (omega arith)
    ]

pub loop-i-preserved : goal.loop-i-preserved
loop-i-preserved c =
    let lt : c.loop-i.i < length c.args.starts.now = omega (arith, c.requires.starts.count) in
    let within = c.requires.starts.within c.loop-i.i (pos 0) lt in
    let amount = c.durations-durations.ensures.limits.durations_fit c.loop-i.i (pos 0) (omega (arith, c.requires.starts.count)) in
    let value : get_or c.durations-durations.result.now c.loop-i.i (pos 0) ≡ duration c.args.project.now c.loop-i.i =
    ap (λ (xs : List ℤ). get_or xs c.loop-i.i (pos 0)) c.durations-durations.ensures.value in
    set_more (end_time c.args.project.now c.args.starts.now) c.loop-i.ends c.loop-i.i _ (omega arith) c.loop-i.invariant (omega (arith, ints))
