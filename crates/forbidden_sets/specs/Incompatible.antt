-- Two activities that can't run at the same time.
use Rattle.std.specs.Prelude.{◌≢◌, ℕ, ◌<◌, pos, ◌<ℤ◌, List, [], ◌∷◌, map}
use Rattle.std.specs.List.{All, Contains, flat_map}
use Rattle.network.specs.declared.parts.Pair.{Pair}
use Rattle.network.specs.Schedule.{IsForbidden}
use Rattle.network.specs.Problem.{Problem, activity_count, resource_count, duration, pair_of}
use Rattle.forbidden_sets.specs.declared.incompatible.Incompatible.{Incompatible}

-- both together ask for more of some resource than there is
pub record ExceedSome (p : Problem) (pair : Pair) : Type 0 where
  pub resource : ℕ
  pub in_range : resource < resource_count p
  pub forbidden : IsForbidden p resource (pair.before ∷ pair.after ∷ [])

-- two activities that take time, and together ask for too much
pub record AreIncompatible (p : Problem) (pair : Pair) : Type 0 where
  pub differ : pair.before ≢ pair.after
  pub first_named : pair.before < activity_count p
  pub second_named : pair.after < activity_count p
  pub first_takes_time : pos 0 <ℤ duration p pair.before
  pub second_takes_time : pos 0 <ℤ duration p pair.after
  pub exceed : ExceedSome p pair

-- pairs of activities that can't run at the same time
abbrev pub AllIncompatible : Problem → List Pair → Type 0
AllIncompatible p pairs = All (AreIncompatible p) pairs

-- ---- The ordered pairs of activities that can't run at the same time, activity by activity.

-- an activity first, with each of the others
abbrev pub pairs_before : ℕ → List ℕ → List Pair
pairs_before i others = map (pair_of i) others

-- the others are all that can't run at the same time as the activity
abbrev pub AreAllRivals : Problem → ℕ → List ℕ → Type 0
AreAllRivals p i others = (j : ℕ) → AreIncompatible p (pair_of i j) → Contains others j

-- the activity of a row first, with each of the others
abbrev pub pairs_of_row : Incompatible → List Pair
pairs_of_row row = pairs_before row.activity row.others.items

abbrev pub pairs_of : List Incompatible → List Pair
pairs_of rows = flat_map (λ row. pairs_of_row row) rows

-- an activity, and others that can't run at the same time as it
pub record IsRowOf (p : Problem) (row : Incompatible) : Type 0 where
  pub named : row.activity < activity_count p
  pub incompatible : AllIncompatible p (pairs_of_row row)

abbrev pub AreRowsOf : Problem → List Incompatible → Type 0
AreRowsOf p rows = All (IsRowOf p) rows
