-- When a trail is right: what ended could end so, under the makespan that nothing longer than is looked for.
use Rattle.std.specs.Prelude.{◌≡◌, ℕ, ◌<◌, ℤ, Bool, true, false, Option, None, List, [], ◌∷◌, ◌++◌, length}
use Rattle.std.specs.List.{AllZip, filter}
use Rattle.network.specs.declared.parts.Pair.{Pair}
use Rattle.network.specs.Problem.{Problem}
use Rattle.branching.specs.Subproblem.{ordered_pairs, IsLive, Subproblem}
use Rattle.branching.specs.Right.{AllForced, IsRightSet, IsInfeasible, IsCutUnder, IsSolvedUnder, is_below}
use Rattle.branching.specs.Fates.{FateOf, is_child, is_infeasible, is_cut}
use Rattle.search_log.specs.SearchLog.{Ending, not_ended, was_cut, was_solved, was_split, Entry, entry_at, path_to}

-- the pair gave the node of this later name, whose pairs are its parent's, the pair, and what that forces
pub record IsChildUnder (p : Problem) (entries : List Entry) (name : ℕ) (pair : Pair) (later : ℕ) : Type 0 where
  pub is_later : name < later
  pub named : later < length entries
  pub path : path_to entries later ≡ (path_to entries name ++ pair ∷ []) ++ (entry_at entries later).forced
  pub all_forced : AllForced p (path_to entries name ++ pair ∷ []) (entry_at entries later).forced

-- the pairs and forced pairs close a walk of positive weight
pub record IsInfeasibleUnder (p : Problem) (pairs forced : List Pair) : Type 0 where
  pub all_forced : AllForced p pairs forced
  pub dead : IsInfeasible p (pairs ++ forced)

-- with the pairs and forced pairs the bound is at least the limit
pub record IsNotOpenedUnder (p : Problem) (limit : Option ℤ) (pairs forced : List Pair) : Type 0 where
  pub all_forced : AllForced p pairs forced
  pub cut : IsCutUnder p (pairs ++ forced) limit

abbrev pub IsRightFate : Problem → Option ℤ → List Entry → ℕ → Pair → FateOf ℕ → Type 0
IsRightFate p limit entries name pair (is_child later) = IsChildUnder p entries name pair later
IsRightFate p limit entries name pair (is_infeasible forced) = IsInfeasibleUnder p (path_to entries name ++ pair ∷ []) forced
IsRightFate p limit entries name pair (is_cut forced) =
    IsNotOpenedUnder p limit (path_to entries name ++ pair ∷ []) forced

-- the node under a name could end so: without a limit none is cut, and none is solved, and none is split that is dead
abbrev pub IsRightEnding : Problem → Option ℤ → List Entry → ℕ → Ending → Type 0
IsRightEnding p limit entries name not_ended = Unit {0}
IsRightEnding p limit entries name was_cut = IsCutUnder p (path_to entries name) limit
IsRightEnding p limit entries name was_solved = IsSolvedUnder p (path_to entries name) limit
IsRightEnding p limit entries name (was_split resource members fates) =
    IsLive p (path_to entries name)
    × IsRightSet p resource members
    × AllZip (IsRightFate p limit entries name) (ordered_pairs members) fates

-- the first node is without pairs; where there is none, a closed walk of the project's rules has positive weight
abbrev pub IsRooted : Problem → List Entry → Type 0
IsRooted p [] = IsInfeasible p []
IsRooted p (root ∷ entries) = (root.origin ≡ None) × (root.forced ≡ [])

-- each entry that ended is right for its pairs and the limit
pub record IsRightTrail (p : Problem) (limit : Option ℤ) (entries : List Entry) : Type 0 where
  pub rooted : IsRooted p entries
  pub endings : (name : ℕ) → name < length entries → IsRightEnding p limit entries name (entry_at entries name).ending

abbrev pub has_ended : Ending → Bool
has_ended not_ended = false
has_ended was_cut = true
has_ended was_solved = true
has_ended (was_split resource members fates) = true

-- right, and each entry has ended: the trail is a whole tree
pub record IsWholeTree (p : Problem) (limit : Option ℤ) (entries : List Entry) : Type 0 where
  pub right : IsRightTrail p limit entries
  pub ended : (name : ℕ) → name < length entries → has_ended (entry_at entries name).ending ≡ true

-- ---- What may lead to a schedule that is shorter than a limit.

-- the children that may lead to a schedule shorter than the limit
abbrev pub children_below : Option ℤ → List Subproblem → List Subproblem
children_below limit children = filter (λ (child : Subproblem). is_below limit child.bound) children
