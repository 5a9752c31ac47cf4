-- Schedules: which lists of starts meet the rules, what they use, and which are feasible
-- (Bartusch, Möhring and Radermacher 1988).
use Rattle.std.specs.Prelude.{◌≡◌, ℕ, ◌-◌, ◌<◌, ◌≤◌, ℤ, pos, ◌+ℤ◌, ◌≤ℤ◌, int_le, int_lt, ◌&&◌, Bool, List, length, slice_index_or, false}
use Rattle.std.specs.List.{All, filter, sum_by, Contains}
use Rattle.network.specs.Problem.{Problem, activity_count, activities, resource_count, duration, demand, capacity, rules, pair_arc, Lag, Pair}
use Rattle.std.specs.List.Sorted.{IsStrictlyIncreasing}
use Rattle.network.specs.declared.verdict.Verdict.{Verdict}
use Rattle.network.specs.declared.verdict.Verdict.TheVariants as verdict

-- when an activity starts
abbrev pub start : List ℤ → ℕ → ℤ
start s i = slice_index_or s i (pos 0)

-- the makespan is the last start, that of the end
abbrev pub makespan : List ℤ → ℤ
makespan s = start s (length s - 1)

-- the list of starts meets the arc
abbrev pub Meets : List ℤ → Lag → Type 0
Meets s arc = (start s arc.from +ℤ arc.weight) ≤ℤ start s arc.to

-- a start for each activity, the first at 0, that meet all rules
pub record IsSchedule (p : Problem) (s : List ℤ) : Type 0 where
  pub whole : length s ≡ activity_count p
  pub from_zero : start s 0 ≡ pos 0
  pub rules_met : All (Meets s) (rules p)

-- the first activity of the pair ends before the second starts
abbrev pub Keeps : Problem → List ℤ → Pair → Type 0
Keeps p s q = Meets s (pair_arc p q)

abbrev pub KeepsAll : Problem → List ℤ → List Pair → Type 0
KeepsAll p s pairs = All (Keeps p s) pairs

-- the activity runs at the unit of time t
abbrev pub is_running : Problem → List ℤ → ℤ → ℕ → Bool
is_running p s t i = int_le (start s i) t && int_lt t (start s i +ℤ duration p i)

-- the activities that run at t, rising
abbrev pub running : Problem → List ℤ → ℤ → List ℕ
running p s t = filter (is_running p s t) (activities p)

-- how many units of resource k are in use at the unit of time t
abbrev pub use_at : Problem → List ℤ → ℕ → ℤ → ℕ
use_at p s k t = sum_by (demand p k) (running p s t)

-- no resource is in use beyond its capacity at the unit of time t
abbrev pub IsWithinCapacitiesAt : Problem → List ℤ → ℤ → Type 0
IsWithinCapacitiesAt p s t = (k : ℕ) → k < resource_count p → use_at p s k t ≤ capacity p k

-- and at no unit of time
abbrev pub IsWithinCapacities : Problem → List ℤ → Type 0
IsWithinCapacities p s = (t : ℤ) → IsWithinCapacitiesAt p s t

-- a schedule that overloads no resource at any unit of time
pub record IsFeasible (p : Problem) (s : List ℤ) : Type 0 where
  pub schedule : IsSchedule p s
  pub within : IsWithinCapacities p s

-- the schedule that keeps the pairs and is in every entry at most every other such schedule
pub record IsLeastSchedule (p : Problem) (pairs : List Pair) (s : List ℤ) : Type 0 where
  pub schedule : IsSchedule p s
  pub keeps : KeepsAll p s pairs
  pub least : (t : List ℤ) → IsSchedule p t → KeepsAll p t pairs →
      (i : ℕ) → i < activity_count p → start s i ≤ℤ start t i

-- what a `Schedule` is: starts, and the project that they are for
pub record ScheduleOf : Type 0 where
  pub project : Problem
  pub starts : List ℤ

-- a feasible schedule of the project
pub record IsScheduleFor (p : Problem) (schedule : ScheduleOf) : Type 0 where
  pub project : schedule.project ≡ p
  pub feasible : IsFeasible p schedule.starts

-- ---- Forbidden sets of activities, each for one resource. Bartusch, Möhring and Radermacher (1988) call a set
-- forbidden where some resource is asked for too much, and minimal where this holds of no proper subset for
-- any resource; here both are said of the same resource.

-- the joint demand of the activities for resource k
abbrev pub joint_demand : Problem → ℕ → List ℕ → ℕ
joint_demand p k members = sum_by (demand p k) members

-- together they ask for more than there is
abbrev pub IsForbidden : Problem → ℕ → List ℕ → Type 0
IsForbidden p k members = capacity p k < joint_demand p k members

-- a set, listed rising, that is forbidden while no proper subset is: a subset keeps the members that pass
-- a test, and a proper one leaves a member out
pub record IsMinimalForbidden (p : Problem) (k : ℕ) (members : List ℕ) : Type 0 where
  pub rising : IsStrictlyIncreasing members
  pub forbidden : IsForbidden p k members
  pub minimal : (kept : ℕ → Bool) (i : ℕ) → Contains members i → kept i ≡ false →
      ¬ IsForbidden p k (filter kept members)

-- ---- What a node of the search stands for, which numbers bound it, and the verdict on a project.

-- a node of these pairs stands for the feasible schedules that keep them
pub record StandsFor (p : Problem) (pairs : List Pair) (s : List ℤ) : Type 0 where
  pub feasible : IsFeasible p s
  pub keeps : KeepsAll p s pairs

-- every schedule that the node stands for takes at least c
abbrev pub IsTrueBound : Problem → List Pair → ℤ → Type 0
IsTrueBound p pairs c = (s : List ℤ) → StandsFor p pairs s → c ≤ℤ makespan s

-- every feasible schedule takes at least c
abbrev pub IsLowerBound : Problem → ℤ → Type 0
IsLowerBound p c = (s : List ℤ) → IsFeasible p s → c ≤ℤ makespan s

-- c is the least makespan of a feasible schedule
pub record IsShortest (p : Problem) (c : ℤ) : Type 0 where
  pub witness : (s : List ℤ) × IsFeasible p s × (makespan s ≡ c)
  pub bound : IsLowerBound p c

abbrev pub HasNoSchedule : Problem → Type 0
HasNoSchedule p = (s : List ℤ) → ¬ IsFeasible p s

-- the verdict is true of the project
abbrev pub IsTrueVerdict : Problem → Verdict → Type 0
IsTrueVerdict p (verdict.Optimal makespan) = IsShortest p makespan
IsTrueVerdict p (verdict.Bound bound) = IsLowerBound p bound
IsTrueVerdict p verdict.NoSchedule = HasNoSchedule p
