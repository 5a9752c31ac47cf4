-- What keeps a list of starts from being a feasible schedule.
use Rattle.std.specs.Prelude.{◌≡◌, ℤ, pos, ◌+ℤ◌, int_lt, Bool, List, [], ◌∷◌, ◌++◌, map, if◌then◌else◌}
use Rattle.std.specs.List.{filter}
use Rattle.std.specs.Ordering.{int_eq}
use Rattle.network.specs.declared.parts.Lag.{Lag}
use Rattle.network.specs.Problem.{Problem, rules}
use Rattle.network.specs.Schedule.{start, IsFeasible}
use Rattle.profile.specs.declared.overload.Overload.{Overload}
use Rattle.profile.specs.Overloads.{all_overloads}
use Rattle.schedule_check.specs.declared.violation.Violation.{Violation}
use Rattle.schedule_check.specs.declared.violation.Violation.TheVariants as violation
use Rattle.schedule_check.specs.declared.acceptance.AcceptFault.{AcceptFault}
use Rattle.schedule_check.specs.declared.acceptance.AcceptFault.TheVariants.{Violated, Memory}

-- the start is at another time than 0
abbrev pub start_violations : List ℤ → List Violation
start_violations s = if int_eq (start s 0) (pos 0) then [] else violation.StartNotZero (start s 0) ∷ []

-- the starts break the rule
abbrev pub breaks : List ℤ → Lag → Bool
breaks s rule = int_lt (start s rule.to) (start s rule.from +ℤ rule.weight)

abbrev pub lag_violation : Lag → Violation
lag_violation rule = violation.Lag rule.from rule.to rule.weight

-- the rules that the starts break, in order
abbrev pub lag_violations : List ℤ → List Lag → List Violation
lag_violations s rules = map lag_violation (filter (breaks s) rules)

abbrev pub overload_violation : Overload → Violation
overload_violation e = violation.Overload e.time e.resource e.used

abbrev pub overload_violations : List Overload → List Violation
overload_violations es = map overload_violation es

-- the start, then the rules, then the overloads at start times
abbrev pub violations : Problem → List ℤ → List Violation
violations p s = start_violations s ++ (lag_violations s (rules p) ++ overload_violations (all_overloads p s))

-- what a fault of `accept` says
abbrev pub IsRefusal : Problem → List ℤ → AcceptFault → Type 0
IsRefusal p s (Violated found) = (found.items ≡ violations p s) × (¬ IsFeasible p s)
IsRefusal p s Memory = Unit {0}
