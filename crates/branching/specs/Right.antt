-- When a step of a search is right, in a node of a project that has these pairs.
use Rattle.std.specs.Prelude.{◌≡◌, ℕ, ◌<◌, ℤ, pos, neg_ℤ, ◌≤ℤ◌, ◌<ℤ◌, Option, None, Some, List, [], ◌∷◌, ◌++◌, int_lt, Bool, true, MatchOption, IfSome}
use Rattle.std.specs.List.{All, Contains}
use Rattle.std.specs.List.Sorted.{IsStrictlyIncreasing}
use Rattle.network.specs.declared.parts.Pair.{Pair}
use Rattle.network.specs.Schedule.{IsForbidden, IsLeastSchedule, IsFeasible, makespan}
use Rattle.network.specs.Problem.{Problem, activity_count, resource_count, duration, arcs_of}
use Rattle.network.specs.Walk.{IsGreatestWeight, HasPositiveCycle}
use Rattle.forbidden_sets.specs.Incompatible.{AreIncompatible}
use Rattle.branching.specs.Subproblem.{IsLive, IsBoundOfPairs}

-- the second activity can't end before the first starts: the greatest weight of a walk from the first to
-- the second is above minus the second's duration
pub record IsTooLateFor (p : Problem) (pairs : List Pair) (pair : Pair) : Type 0 where
  pub weight : ℤ
  pub greatest : IsGreatestWeight (arcs_of p pairs) pair.before pair.after (Some weight)
  pub above : neg_ℤ (duration p pair.after) <ℤ weight

-- the node isn't dead, the two activities can't run at the same time, and the second can't come first
-- (immediate selection, after Carlier and Pinson 1989)
pub record IsForced (p : Problem) (pairs : List Pair) (pair : Pair) : Type 0 where
  pub is_live : IsLive p pairs
  pub incompatible : AreIncompatible p pair
  pub too_late : IsTooLateFor p pairs pair

-- each pair is forced under all before it
abbrev pub AllForced : Problem → List Pair → List Pair → Type 0
AllForced p pairs [] = Unit {0}
AllForced p pairs (pair ∷ forced) = IsForced p pairs pair × AllForced p (pairs ++ pair ∷ []) forced

-- a set that may be split: rising activities that take time, and together ask for too much
pub record IsRightSet (p : Problem) (resource : ℕ) (members : List ℕ) : Type 0 where
  pub in_range : resource < resource_count p
  pub rising : IsStrictlyIncreasing members
  pub named : All (λ i. i < activity_count p) members
  pub take_time : All (λ i. pos 0 <ℤ duration p i) members
  pub forbidden : IsForbidden p resource members

-- a closed walk over the rules and the pairs has positive weight
abbrev pub IsInfeasible : Problem → List Pair → Type 0
IsInfeasible p pairs = HasPositiveCycle (arcs_of p pairs)

-- not dead, and the bound of the pairs' matrix is at least the limit
pub record IsCut (p : Problem) (pairs : List Pair) (limit : ℤ) : Type 0 where
  pub is_live : IsLive p pairs
  pub bound : ℤ
  pub bound_of : IsBoundOfPairs p pairs bound
  pub reaches : limit ≤ℤ bound

-- not dead, and the least schedule is feasible and lasts at least the limit
pub record IsSolved (p : Problem) (pairs : List Pair) (limit : ℤ) : Type 0 where
  pub is_live : IsLive p pairs
  pub starts : List ℤ
  pub least : IsLeastSchedule p pairs starts
  pub feasible : IsFeasible p starts
  pub reaches : limit ≤ℤ makespan starts

-- the same under a limit that may not be there: without one nothing is cut, and nothing is solved
abbrev pub IsCutUnder : Problem → List Pair → Option ℤ → Type 0
IsCutUnder p pairs None = ⊥
IsCutUnder p pairs (Some limit) = IsCut p pairs limit

abbrev pub IsSolvedUnder : Problem → List Pair → Option ℤ → Type 0
IsSolvedUnder p pairs None = ⊥
IsSolvedUnder p pairs (Some limit) = IsSolved p pairs limit

-- ---- A makespan that is known, if one is: only what is below it is looked for.

-- the makespan is below the ceiling, if there is one
abbrev pub IsBelow : Option ℤ → List ℤ → Type 0
IsBelow ceiling s = IfSome ceiling (λ c. makespan s <ℤ c)

-- the bound is below the ceiling, if there is one
abbrev pub IsUnder : Option ℤ → ℤ → Type 0
IsUnder ceiling bound = IfSome ceiling (λ c. bound <ℤ c)

-- there is a ceiling, and the bound is at least that
abbrev pub Reaches : Option ℤ → ℤ → Type 0
Reaches None bound = ⊥
Reaches (Some c) bound = c ≤ℤ bound

-- the least of the numbers, none where there is none
abbrev pub IsLeast : List ℤ → Option ℤ → Type 0
IsLeast numbers None = numbers ≡ []
IsLeast numbers (Some least) = Contains numbers least × All (λ number. least ≤ℤ number) numbers

-- whether the number is below the ceiling, if there is one
abbrev pub is_below : Option ℤ → ℤ → Bool
is_below None number = true
is_below (Some c) number = int_lt number c

-- a report without a ceiling left nothing out; one with a ceiling left out nothing that is shorter than the best
abbrev pub IsInTime : Option ℤ → Option ℤ → Type 0
IsInTime None best = Unit {0}
IsInTime (Some ceiling) best = MatchOption best ⊥ (λ length. length ≤ℤ ceiling)
