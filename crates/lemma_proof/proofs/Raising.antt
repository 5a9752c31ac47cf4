-- A row of weights that is raised by a way, up to some place.
use Rattle.std.proofs.Common.{◌≡◌, refl, ◌∙◌, ap, ℕ, ◌+◌, ◌<◌, ◌≤◌, inl, inr, arith, ℤ, pos, ◌+ℤ◌, List, length, get_or-set_same, get_or-set_other, ◌≢◌}
use Rattle.std.proofs.Math.ListN.{set}
use Rattle.std.proofs.lemmas.Bool.{cases_eq}
use Rattle.std.specs.Int.{int_max}
use Rattle.network.specs.Schedule.{start}

pub record IsPartlyRaised (b : ℕ) (by : ℤ) (via old row : List ℤ) : Type 0 where
  pub done : (k : ℕ) → k < b → start row k ≡ int_max (start old k) (by +ℤ start via k)
  pub rest : (k : ℕ) → b ≤ k → start row k ≡ start old k

pub none_raised : (by : ℤ) (via old : List ℤ) → IsPartlyRaised 0 by via old old
none_raised by via old = record { done = λ k less. absurd (omega arith); rest = λ k more. refl }

pub raised_more : (b : ℕ) (by z : ℤ) (via old row : List ℤ) → IsPartlyRaised b by via old row → b < length row →
    z ≡ int_max (start row b) (by +ℤ start via b) → IsPartlyRaised (b + 1) by via old (set row b z)
raised_more b by z via old row h low new = record {
  done = λ k less. elim (cases_eq k b) [
    | inl e ↦ rw e (get_or-set_same row b z (pos 0) low ∙ new ∙ ap (λ (y : ℤ). int_max y (by +ℤ start via b)) (h.rest b (omega arith)))
    | inr ne ↦ get_or-set_other row b k z (pos 0) ne ∙ h.done k (omega arith)
  ];
  rest = λ k more. let ne : k ≢ b = omega arith in get_or-set_other row b k z (pos 0) ne ∙ h.rest k (omega arith);
}
