-- What is true of a book whenever nobody is changing it.
use Rattle.std.specs.Prelude.{◌≡◌, ℕ, ◌+◌, ◌*◌, ◌<◌, ◌≤◌, ◌==◌, List, map, length, [], ◌∷◌, IfSome, ℤ, ◌++◌, Option, Some, None}
use Rattle.std.specs.List.{All, count_by}
use Rattle.branching.specs.Subproblem.{Subproblem}
use Rattle.branching.specs.Fair.{IsCovered}
use Rattle.branching.specs.Right.{IsLeast}
use Rattle.branching.specs.declared.report.TheConstants.{MAX_CHILDREN}
use Rattle.plain_search.specs.declared.search.TheConstants.{MAX_EXPANDED}
use Rattle.book.specs.State.{Named, BookState, in_hand, live, best_makespan}
use Rattle.search_log.specs.SearchLog.{Entry, not_ended, was_cut, entry_at, path_to}
use Rattle.search_log.specs.Recording.{ended_as}
use Rattle.search_log.specs.RightTrail.{IsRightTrail, IsWholeTree, has_ended}
use Rattle.std.specs.Option.{option_to_list}
use Rattle.network.specs.Problem.{Problem}
use Rattle.network.specs.Schedule.{IsLowerBound, HasNoSchedule}
use Rattle.network.specs.declared.verdict.Verdict.{Verdict}
use Rattle.network.specs.declared.verdict.Verdict.TheVariants as verdict

abbrev pub nodes_of : List Named → List Subproblem
nodes_of named = map (λ (n : Named). n.node) named

-- no two nodes have one name
abbrev pub AreNamedOnce : List Named → Type 0
AreNamedOnce nodes = (name : ℕ) → count_by (λ (n : Named). n.name == name) nodes ≤ 1

-- each node got its name when it was opened: names are 0, 1, 2 and so on
abbrev pub AreNamedBelow : ℕ → List Named → Type 0
AreNamedBelow opened nodes = All (λ (n : Named). n.name < opened) nodes

-- The best, if there is one, is a feasible schedule of the project. The nodes open or in hand are of the project, their
-- bounds are true, and each shorter feasible schedule is one that some of them stands for. They have names of their own.
-- And nodes opened are those checked in, cut, open and in hand.
pub record IsSound (s : BookState) : Type 0 where
  pub covered : IsCovered s.project s.best (nodes_of (live s))
  pub named_once : AreNamedOnce (live s)
  pub named_below : AreNamedBelow s.opened (live s)
  pub counted : s.opened ≡ s.checked + s.cut + length (live s)

-- no count passes its limit: each node that was checked in or is in hand was taken, and has few children
pub record IsWithinLimits (s : BookState) : Type 0 where
  pub tickets : s.checked + length (in_hand s.hands) ≤ s.taken
  pub taken : s.taken ≤ s.limit
  pub limit : s.limit ≤ MAX_EXPANDED
  pub opened : s.opened ≤ 1 + MAX_CHILDREN * s.checked

-- ---- What a book notes in its trail when nodes are cut, and what is true of the trail whenever nobody is changing it.

-- these nodes end as cut
abbrev pub note_cut : List Named → List Entry → List Entry
note_cut [] entries = entries
note_cut (n ∷ nodes) entries = note_cut nodes (ended_as entries n.name was_cut)

-- the node stands under its name with its pairs, and has not ended
pub record IsNoted (entries : List Entry) (n : Named) : Type 0 where
  pub going : (entry_at entries n.name).ending ≡ not_ended
  pub pairs : n.node.pairs ≡ path_to entries n.name

-- Each entry that ended is right for its pairs and the best makespan, and there is one for each node that was opened.
-- The nodes open or in hand have not ended, and as many ended as were checked in and cut.
pub record IsRecorded (s : BookState) (entries : List Entry) : Type 0 where
  pub right : IsRightTrail s.project (best_makespan s) entries
  pub all_named : length entries ≡ s.opened
  pub noted : All (IsNoted entries) (live s)
  pub ended : count_by (λ (e : Entry). has_ended e.ending) entries ≡ s.checked + s.cut

-- once no node is open or in hand, the trail, if one is kept, is a whole tree
abbrev pub EndsWhole : BookState → Type 0
EndsWhole s = live s ≡ [] → IfSome s.trail (IsWholeTree s.project (best_makespan s))

-- ---- What a book says of its project.

abbrev pub bounds_of : List Named → List ℤ
bounds_of nodes = map (λ (n : Named). n.node.bound) nodes

-- the best makespan, and the bounds of the nodes open or in hand
abbrev pub known_bounds : BookState → List ℤ
known_bounds s = option_to_list (best_makespan s) ++ bounds_of (live s)

-- every feasible schedule takes at least the bound; where there is none, there is no feasible schedule
abbrev pub IsBoundFor : Problem → Option ℤ → Type 0
IsBoundFor p None = HasNoSchedule p
IsBoundFor p (Some bound) = IsLowerBound p bound

-- with no node open or in hand the best is optimal, or there is no schedule; else the bound is the least of those known
abbrev pub IsVerdictOf : BookState → Verdict → Type 0
IsVerdictOf s (verdict.Optimal length) = (live s ≡ []) × (best_makespan s ≡ Some length)
IsVerdictOf s verdict.NoSchedule = (live s ≡ []) × (best_makespan s ≡ None)
IsVerdictOf s (verdict.Bound bound) = (0 < length (live s)) × IsLeast (known_bounds s) (Some bound)
