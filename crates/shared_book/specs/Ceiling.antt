-- The ceiling, its seats, and the rule that holds of them between any two steps.
use Rattle.std.specs.Prelude.{◌≡◌, ℕ, ◌≤◌, All, Any, slice_index, min}
use Rattle.atomic_table.specs.Table.{State}
use Rattle.atomic_table.specs.Seated.{TableId}
use Rattle.shared_book.specs.declared.ceiling_seat.View.{View}

-- which ceiling it is
abbrev pub CeilingId : Type 0
CeilingId = TableId

-- a seat: the ceiling that it is of, and what its holder knows and has offered
pub record Seated : Type 0 where
  pub ceiling : CeilingId
  pub view : View

-- the number that the ceiling holds
abbrev pub number_of : {S : Type 0} → State S View → ℕ
number_of s = slice_index s.words 0

-- The ceiling rule, over all seats that there are or were: the ceiling is at most what each seat knows, that is at most what
-- the seat offered, and some seat offered the number that the ceiling holds. So the ceiling is the least number offered.
pub record HoldsLeast {S : Type 0} (s : State S View) : Type 0 where
  pub at_most_known : All (λ view. number_of s ≤ view.known) s.views
  pub known_at_most_offered : All (λ view. view.known ≤ view.offered) s.views
  pub was_offered : Any (λ view. view.offered ≡ number_of s) s.views

-- ---- What a seat knows and has offered, and what each step on the ceiling changes of that.

-- the first seat knows what the ceiling was opened with, which counts as offered
abbrev pub opening_view : ℕ → View
opening_view first = record { known = first; offered = first }

-- a look finds a number that is at most what the seat knew, and the seat then knows that number
abbrev pub Sees : View → ℕ → View → Type 0
Sees old found new = (found ≤ old.known) × (new ≡ record old { known = found })

-- an offer finds a number that is at most what the seat knew; the seat then knows the least of what it knew, of what
-- it found and of what it offers
abbrev pub Lowers : View → ℕ → ℕ → View → Type 0
Lowers old found number new =
    (found ≤ old.known) × (new ≡ record { known = min (min old.known found) number; offered = min old.offered number })
