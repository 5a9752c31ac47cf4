-- What the expansion of a node gives, and when a report on it is fair.
use Rattle.std.specs.Prelude.{◌≡◌, ◌≤◌, ℤ, ◌<ℤ◌, Option, None, IfSome, MatchOption, List, [], length, map, ◌⊎◌, Some}
use Rattle.std.specs.List.{All, Any}
use Rattle.network.specs.declared.parts.Pair.{Pair}
use Rattle.network.specs.Schedule.{ScheduleOf, IsScheduleFor, Keeps, IsLeastSchedule, makespan, IsFeasible}
use Rattle.forbidden_sets.specs.MinimalSet.{MinimalSet}
use Rattle.branching.specs.declared.report.TheConstants.{MAX_CHILDREN}
use Rattle.branching.specs.Subproblem.{Subproblem, NodeStandsFor, IsNode, ordered_pairs}
use Rattle.branching.specs.Right.{IsRightSet, IsCutUnder, IsBelow, IsUnder}
use Rattle.branching.specs.Fates.{Fates, IsChildBy, AreFates, fate_value}
use Rattle.std.specs.Arc.{arc_value}
use Rattle.branching.specs.declared.branches.Branches.{Branches}
use Rattle.branching.specs.declared.report.Report.TheInside.{Inside}
use Rattle.network.specs.Problem.{Problem}

-- what a `Report` is: a node, the ceiling it was expanded under, a schedule if one was found, the set that
-- was split if one was, what became of its ordered pairs, and children
pub record Expansion : Type 0 where
  pub node : Subproblem
  pub ceiling : Option ℤ
  pub found : Option ScheduleOf
  pub split : Option MinimalSet
  pub fates : Fates
  pub children : List Subproblem

-- the report of these parts
abbrev pub report_of :
    Subproblem → Option ℤ → Option ScheduleOf → Option MinimalSet → Fates → List Subproblem → Expansion
report_of node ceiling found split fates children =
    record { node = node; ceiling = ceiling; found = found; split = split; fates = fates; children = children }

-- the schedule is shorter than the best, if there is one
abbrev pub IsShorterThan : Option ScheduleOf → List ℤ → Type 0
IsShorterThan best s = IfSome best (λ best. makespan s <ℤ makespan best.starts)

-- the node's least schedule doesn't keep the pair
abbrev pub IsNewTo : Subproblem → Pair → Type 0
IsNewTo node pair = (s : List ℤ) → IsLeastSchedule node.project node.pairs s → ¬ Keeps node.project s pair

-- a child adds a pair that is new to the node at the end of its pairs, and then forced pairs
pub record IsChildOf (node child : Subproblem) : Type 0 where
  pub first : Pair
  pub is_new : IsNewTo node first
  pub adds : IsChildBy node first child

-- what is found is a schedule of the project that the node stands for
pub record IsFoundFor (node : Subproblem) (found : ScheduleOf) : Type 0 where
  pub project : found.project ≡ node.project
  pub stands : NodeStandsFor node found.starts

-- what is found is right, and some child stands for each schedule that is left: each that the node stands
-- for, below the ceiling and shorter than what is found
pub record IsFair (report : Expansion) : Type 0 where
  pub of_found : IfSome report.found (IsFoundFor report.node)
  pub of_children : All (IsChildOf report.node) report.children
  pub covers : (s : List ℤ) → NodeStandsFor report.node s → IsBelow report.ceiling s →
      IsShorterThan report.found s → Any (λ child. NodeStandsFor child s) report.children
  pub few : length report.children ≤ MAX_CHILDREN

-- a set was split: it may be, nothing is found, and there is a right fate for each of its ordered pairs
pub record IsSplitBy (report : Expansion) (set : MinimalSet) : Type 0 where
  pub right_set : IsRightSet report.node.project set.resource set.members
  pub none_found : report.found ≡ None
  pub fates : AreFates report.node report.ceiling (ordered_pairs set.members) report.fates report.children

-- no set was split: what is found is the node's least schedule, or nothing is and the node is cut
pub record IsUnsplit (report : Expansion) : Type 0 where
  pub no_fates : report.fates ≡ []
  pub no_children : report.children ≡ []
  pub of_found : MatchOption report.found
      (IsCutUnder report.node.project report.node.pairs report.ceiling)
      (λ found. IsLeastSchedule report.node.project report.node.pairs found.starts)

-- what a `Report` keeps: it is fair, and tells how
pub record IsReport (report : Expansion) : Type 0 where
  pub is_node : IsNode report.node
  pub fair : IsFair report
  pub told : MatchOption report.split (IsUnsplit report) (IsSplitBy report)

-- a report on this node under this ceiling, which finds nothing but the node's least schedule
pub record IsReportOn (node : Subproblem) (ceiling : Option ℤ) (report : Expansion) : Type 0 where
  pub node_is : report.node ≡ node
  pub ceiling_is : report.ceiling ≡ ceiling
  pub found_is : IfSome report.found (λ found. IsLeastSchedule node.project node.pairs found.starts)

-- where the node's bound is at least the ceiling, the report finds nothing and has no children
abbrev pub FindsNothingOver : Subproblem → Option ℤ → Expansion → Type 0
FindsNothingOver node ceiling report = ¬ IsUnder ceiling node.bound → (report.found ≡ None) × (report.children ≡ [])

-- ---- The fields of a `Report`, as a caller sees them, and the lists that it leaves.

abbrev pub expansion_of : Inside → Expansion
expansion_of r =
    report_of (arc_value r.node) r.ceiling r.found r.split (map fate_value r.fates.items) (map arc_value r.children.items)

-- the lists are the report's own
pub record AreListsOf (report : Expansion) (made : Branches) : Type 0 where
  pub children : map arc_value made.children.items ≡ report.children
  pub fates : map fate_value made.fates.items ≡ report.fates

-- ---- The best schedule so far, and nodes that stand for every shorter one.

-- a node of the project
pub record IsNodeOf (p : Problem) (node : Subproblem) : Type 0 where
  pub project : node.project ≡ p
  pub is_node : IsNode node

-- the node without pairs, which stands for every feasible schedule of the project
pub record IsRootOf (p : Problem) (node : Subproblem) : Type 0 where
  pub of_project : IsNodeOf p node
  pub no_pairs : node.pairs ≡ []

-- the best is feasible, and each shorter feasible schedule is one that some node stands for
pub record IsCovered (p : Problem) (best : Option ScheduleOf) (nodes : List Subproblem) : Type 0 where
  pub of_best : IfSome best (IsScheduleFor p)
  pub of_nodes : All (IsNodeOf p) nodes
  pub covers : (s : List ℤ) → IsFeasible p s → IsShorterThan best s → Any (λ node. NodeStandsFor node s) nodes

-- the ceiling that the best gives: its makespan
abbrev pub ceiling_of : Option ScheduleOf → Option ℤ
ceiling_of None = None
ceiling_of (Some best) = Some (makespan best.starts)

-- of the best and what was found, the shorter, or the one that is there
pub record IsShorterOf (best found shorter : Option ScheduleOf) : Type 0 where
  pub than_best : (s : List ℤ) → IsShorterThan shorter s → IsShorterThan best s
  pub than_found : (s : List ℤ) → IsShorterThan shorter s → IsShorterThan found s
  pub from : IfSome shorter (λ s. (Some s ≡ best) ⊎ (Some s ≡ found))
