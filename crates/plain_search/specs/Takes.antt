-- How a search in one thread goes: take by take, depth first.
use Rattle.std.specs.Prelude.{◌≡◌, ℤ, Option, List, ℕ, suc, None, Some, [], ◌∷◌, ◌++◌, map}
use Rattle.std.specs.List.{All}
use Rattle.network.specs.Problem.{Problem}
use Rattle.network.specs.Schedule.{ScheduleOf}
use Rattle.branching.specs.Subproblem.{Subproblem}
use Rattle.branching.specs.Fair.{IsCovered, Expansion, IsReport, IsReportOn, IsRootOf, IsShorterOf, ceiling_of}
use Rattle.branching.specs.Right.{IsUnder, IsLeast}
use Rattle.network.specs.declared.outcome.Outcome.{Outcome}
use Rattle.network.specs.declared.outcome.Outcome.TheVariants.{Optimal, NoSchedule, Stopped}
use Rattle.std.specs.Arc.{arc_value}
use Rattle.plain_search.specs.declared.search.Search.TheInside.{Inside}

-- ---- What a search in one thread is between its takes.

-- its project, the best schedule so far, and the nodes on the stack
pub record SearchState : Type 0 where
  pub project : Problem
  pub best : Option ScheduleOf
  pub nodes : List Subproblem

-- the search is sound: its nodes cover what is shorter than its best
abbrev pub IsSoundState : SearchState → Type 0
IsSoundState state = IsCovered state.project state.best state.nodes

abbrev pub bounds_of : List Subproblem → List ℤ
bounds_of nodes = map (λ (node : Subproblem). node.bound) nodes

-- nodes were dropped from the end alone, and none of them is below the ceiling
pub record DropsOver (ceiling : Option ℤ) (old new : List Subproblem) : Type 0 where
  pub dropped : List Subproblem
  pub from_end : old ≡ new ++ dropped
  pub over : All (λ node. ¬ IsUnder ceiling node.bound) dropped

-- the last node below the ceiling goes off a stack, and so do those after it; where none is below it, all go
abbrev pub PopsUnder : Option ℤ → List Subproblem → Option Subproblem → List Subproblem → Type 0
PopsUnder ceiling old None new = DropsOver ceiling old [] × (new ≡ [])
PopsUnder ceiling old (Some node) new = DropsOver ceiling old (new ++ node ∷ []) × IsUnder ceiling node.bound

-- one take: the last node below the best is expanded under the best, and its children are put in its place
pub record IsTake (old new : SearchState) : Type 0 where
  pub rest : List Subproblem
  pub node : Subproblem
  pub report : Expansion
  pub pops : PopsUnder (ceiling_of old.best) old.nodes (Some node) rest
  pub expanded : IsReportOn node (ceiling_of old.best) report
  pub is_report : IsReport report
  pub project : new.project ≡ old.project
  pub best : IsShorterOf old.best report.found new.best
  pub nodes : new.nodes ≡ rest ++ report.children

-- so many takes lead from one state to another
pub data Takes : ℕ → SearchState → SearchState → Type 0 where
  no_take : (state : SearchState) → Takes 0 state state
  one_more : (n : ℕ) (first between last : SearchState) → Takes n first between → IsTake between last →
      Takes (suc n) first last

-- a search begins with no schedule, and with the root alone
abbrev pub first_state : Problem → Subproblem → SearchState
first_state p root = record { project = p; best = None; nodes = root ∷ [] }

-- what is left where a search is stopped: nodes of which some are below the best, with this least bound
pub record IsStillOpen (state : SearchState) (bound : ℤ) : Type 0 where
  pub least : IsLeast (bounds_of state.nodes) (Some bound)
  pub under : IsUnder (ceiling_of state.best) bound

-- the outcome that a state of a search has
abbrev pub IsOutcomeOf : SearchState → Outcome → Type 0
IsOutcomeOf state (Optimal best) =
    (state.best ≡ Some best) × All (λ node. ¬ IsUnder (ceiling_of state.best) node.bound) state.nodes
IsOutcomeOf state NoSchedule = (state.best ≡ None) × (state.nodes ≡ [])
IsOutcomeOf state (Stopped best bound) = (state.best ≡ best) × IsStillOpen state bound

-- a search of the project that was stopped after so many takes
pub record IsStoppedAfter (p : Problem) (takes : ℕ) (outcome : Outcome) : Type 0 where
  pub root : Subproblem
  pub is_root : IsRootOf p root
  pub last : SearchState
  pub taken : Takes takes (first_state p root) last
  pub outcome_of : IsOutcomeOf last outcome

-- a search is stopped only after so many takes
abbrev pub StopsOnlyAfter : Problem → ℕ → Outcome → Type 0
StopsOnlyAfter p takes (Optimal best) = Unit {0}
StopsOnlyAfter p takes NoSchedule = Unit {0}
StopsOnlyAfter p takes (Stopped best bound) = IsStoppedAfter p takes (Stopped best bound)

-- ---- The fields of a `Search`, as its functions see them.

abbrev pub state_of : Inside → SearchState
state_of s = record { project = arc_value s.project; best = s.best; nodes = map arc_value s.stack.items }
