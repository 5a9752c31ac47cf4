-- The earliest starts and the tails that a matrix gives.
use Rattle.std.specs.Prelude.{ℤ, pos, List, ◌≡◌, ◌<◌, ℕ, ◌+ℤ◌, ◌-ℤ◌, ◌≤ℤ◌, map, length, slice_index_or}
use Rattle.std.specs.List.{All}
use Rattle.network.specs.declared.parts.Pair.{Pair}
use Rattle.network.specs.Problem.{Problem, IsBetween, AreStarts, activity_count, activities, end_of, duration}
use Rattle.network.specs.Schedule.{IsLeastSchedule, start, makespan, IsSchedule, KeepsAll}
use Rattle.network.specs.Walk.{Rows, IsProjectMatrix, entry}
use Rattle.network.specs.declared.limits.TheConstants.{MAX_WALK_WEIGHT}
use Rattle.std.specs.Option.{unwrap_or}

-- ---- The earliest starts that a matrix gives.

-- the starts are the least schedule that keeps the pairs, and are within the limits
pub record AreEarliest (p : Problem) (pairs : List Pair) (starts : List ℤ) : Type 0 where
  pub least : IsLeastSchedule p pairs starts
  pub limits : AreStarts p starts
  pub range : All (IsBetween (pos 0) MAX_WALK_WEIGHT) starts

-- the starts are the earliest of each project and pairs whose matrix this is
abbrev pub AreEarliestFor : Rows → List ℤ → Type 0
AreEarliestFor rows starts =
    (p : Problem) (pairs : List Pair) → IsProjectMatrix p pairs rows → AreEarliest p pairs starts

-- ---- The tails that a matrix gives: how long a schedule that keeps the pairs lasts at least after an
-- activity's end.

-- the greatest weight from activity i to the end, less the activity's duration
abbrev pub tail_weight : Problem → Rows → ℕ → ℤ
tail_weight p rows i = unwrap_or (entry rows i (end_of p)) (pos 0) -ℤ duration p i

abbrev pub tail_weights : Problem → Rows → List ℤ
tail_weights p rows = map (tail_weight p rows) (activities p)

-- the tail of activity i in a list of tails
abbrev pub tail : List ℤ → ℕ → ℤ
tail tails i = slice_index_or tails i (pos 0)

-- a tail for each activity, within the limits, and each schedule that keeps the pairs lasts at
-- least the activity's tail after its end
pub record AreTails (p : Problem) (pairs : List Pair) (tails : List ℤ) : Type 0 where
  pub count : length tails ≡ activity_count p
  pub range : All (IsBetween (pos 0) MAX_WALK_WEIGHT) tails
  pub lasts : (s : List ℤ) → IsSchedule p s → KeepsAll p s pairs → (i : ℕ) → i < activity_count p →
      ((start s i +ℤ duration p i) +ℤ tail tails i) ≤ℤ makespan s

-- the tails are those of all pairs with which this is the project's matrix
abbrev pub AreTailsFor : Problem → Rows → List ℤ → Type 0
AreTailsFor p rows tails = (pairs : List Pair) → IsProjectMatrix p pairs rows → AreTails p pairs tails
