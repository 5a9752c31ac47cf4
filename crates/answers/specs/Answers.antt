-- The texts of answers.
use Rattle.std.specs.Prelude.{ℕ, List, ◌++◌, map, ℤ, Option, Some, None, codes, ◌≡◌, ◌+◌, Bool, true, false, [], ◌∷◌, ◌<ℤ◌, ◌≤ℤ◌, ◌⊎◌}
use Rattle.std.specs.List.{join_with_byte, flat_map}
use Rattle.std.specs.Fmt.{signed_decimal, decimal}
use Rattle.serde_json.specs.Data.{Data, null, number, string, array, object, no_members, member}
use Rattle.serde_json.specs.Find.{of_integer}
use Rattle.serde_json.specs.View.{items_of}
use Rattle.network.specs.Problem.{Problem, rules}
use Rattle.network.specs.Schedule.{IsLeastSchedule, IsFeasible, makespan, IsLowerBound, IsShortest, HasNoSchedule, IsTrueVerdict}
use Rattle.network.specs.Walk.{IsLeastCycleTop}
use Rattle.schedule_check.specs.declared.violation.Violation.{Violation}
use Rattle.schedule_check.specs.declared.violation.Violation.TheVariants as violation
use Rattle.schedule_check.specs.Violations.{violations}
use Rattle.network.specs.declared.verdict.Verdict.{Verdict}
use Rattle.network.specs.declared.verdict.Verdict.TheVariants as verdict

-- ---- An answer as one line of JSON.

-- a number, or null
abbrev pub number_text : Option ℤ → List ℕ
number_text None = codes "null"
number_text (Some z) = signed_decimal z

-- a list of numbers, or null
abbrev pub list_text : Option (List ℤ) → List ℕ
list_text None = codes "null"
list_text (Some zs) = codes "[" ++ (join_with_byte 44 (map signed_decimal zs) ++ codes "]")

-- the line, with its keys in this order
abbrev pub json_line : Option ℤ → Option ℤ → Option (List ℤ) → List ℕ → List ℕ
json_line bound makespan starts status =
    codes "{\"bound\":" ++ (number_text bound
    ++ (codes ",\"makespan\":" ++ (number_text makespan
    ++ (codes ",\"starts\":" ++ (list_text starts
    ++ (codes ",\"status\":\"" ++ (status ++ codes "\"}\n")))))))

-- ---- the value of which it is the text

abbrev pub number_data : Option ℤ → Data
number_data None = null
number_data (Some z) = number (of_integer z)

abbrev pub list_data : Option (List ℤ) → Data
list_data None = null
list_data (Some zs) = array (items_of (map (λ z. number (of_integer z)) zs))

abbrev pub answer_data : Option ℤ → Option ℤ → Option (List ℤ) → List ℕ → Data
answer_data bound makespan starts status =
    object (member (codes "bound") (number_data bound)
    (member (codes "makespan") (number_data makespan)
    (member (codes "starts") (list_data starts)
    (member (codes "status") (string status) no_members))))

-- a line for each activity, from this one on: its number and its start
abbrev pub start_lines : ℕ → List ℤ → List ℕ
start_lines i [] = []
start_lines i (start ∷ starts) = (decimal i ++ (codes " " ++ (signed_decimal start ++ codes "\n"))) ++ start_lines (i + 1) starts

-- a word with a makespan, and the starts
abbrev pub starts_text : List ℕ → ℤ → List ℤ → List ℕ
starts_text word periods starts = (word ++ (codes " " ++ (signed_decimal periods ++ codes "\n"))) ++ start_lines 0 starts

abbrev pub cycle_line : ℕ → List ℕ
cycle_line top = codes "positive cycle " ++ (decimal top ++ codes "\n")

-- ---- what `earliest` says

-- the least schedule of the project
pub record IsLeastText (p : Problem) (exit : ℕ) (written : List ℕ) : Type 0 where
  pub starts : List ℤ
  pub least : IsLeastSchedule p [] starts
  pub text : written ≡ starts_text (codes "earliest") (makespan starts) starts
  pub status : exit ≡ 0

-- or, where a closed walk of its arcs is positive, the least activity that tops such a walk
pub record IsCycleText (p : Problem) (exit : ℕ) (written : List ℕ) : Type 0 where
  pub top : ℕ
  pub least_top : IsLeastCycleTop (rules p) top
  pub text : written ≡ cycle_line top
  pub status : exit ≡ 0

abbrev pub IsEarliestText : Problem → ℕ → List ℕ → Type 0
IsEarliestText p exit written = IsLeastText p exit written ⊎ IsCycleText p exit written

-- ---- what `check` says

-- a line for a broken rule or an overload
abbrev pub violation_line : Violation → List ℕ
violation_line (violation.StartNotZero found) = codes "start " ++ (signed_decimal found ++ codes "\n")
violation_line (violation.Lag from to weight) =
    codes "lag " ++ (decimal from ++ (codes " " ++
    (decimal to ++ (codes " " ++ (signed_decimal weight ++ codes "\n")))))
violation_line (violation.Overload time resource used) =
    codes "overload " ++ (signed_decimal time ++
    (codes " " ++ (decimal resource ++ (codes " " ++ (decimal used ++ codes "\n")))))

abbrev pub violations_text : List Violation → List ℕ
violations_text found = flat_map violation_line found

abbrev pub feasible_line : ℤ → List ℕ
feasible_line makespan = codes "feasible " ++ (signed_decimal makespan ++ codes "\n")

-- what `check` writes for a list of starts, and the exit status: that they are a feasible schedule,
-- or else every violation
pub record IsFeasibleText (p : Problem) (starts : List ℤ) (exit : ℕ) (written : List ℕ) : Type 0 where
  pub feasible : IsFeasible p starts
  pub text : written ≡ feasible_line (makespan starts)
  pub status : exit ≡ 0

pub record IsViolationsText (p : Problem) (starts : List ℤ) (exit : ℕ) (written : List ℕ) : Type 0 where
  pub infeasible : ¬ IsFeasible p starts
  pub text : written ≡ violations_text (violations p starts)
  pub status : exit ≡ 4

abbrev pub IsCheckText : Problem → List ℤ → ℕ → List ℕ → Type 0
IsCheckText p starts exit written = IsFeasibleText p starts exit written ⊎ IsViolationsText p starts exit written

-- ---- what `verify` says

abbrev pub proved_line : Verdict → List ℕ
proved_line (verdict.Optimal makespan) = codes "proved optimal " ++ (signed_decimal makespan ++ codes "\n")
proved_line (verdict.Bound bound) = codes "proved bound " ++ (signed_decimal bound ++ codes "\n")
proved_line verdict.NoSchedule = codes "proved no schedule\n"

-- ---- what `solve` says

abbrev pub bound_text : ℤ → List ℕ
bound_text bound = codes " bound " ++ (signed_decimal bound ++ codes "\n")

-- a makespan with a lower bound of all makespans, and the starts
abbrev pub stopped_text : ℤ → ℤ → List ℤ → List ℕ
stopped_text periods bound starts = (codes "feasible " ++ (signed_decimal periods ++ bound_text bound)) ++ start_lines 0 starts

-- the texts of each status, or, where that is asked for, the lines of JSON
abbrev pub optimal_text : Bool → List ℤ → List ℕ
optimal_text false starts = starts_text (codes "optimal") (makespan starts) starts
optimal_text true starts = json_line (Some (makespan starts)) (Some (makespan starts)) (Some starts) (codes "optimal")

abbrev pub no_schedule_text : Bool → List ℕ
no_schedule_text false = codes "no schedule\n"
no_schedule_text true = json_line None None None (codes "no schedule")

abbrev pub feasible_text : Bool → ℤ → List ℤ → List ℕ
feasible_text false bound starts = stopped_text (makespan starts) bound starts
feasible_text true bound starts = json_line (Some bound) (Some (makespan starts)) (Some starts) (codes "feasible")

abbrev pub unknown_text : Bool → ℤ → List ℕ
unknown_text false bound = codes "unknown" ++ bound_text bound
unknown_text true bound = json_line (Some bound) None None (codes "unknown")

-- a schedule of least makespan
pub record IsOptimalText (p : Problem) (json : Bool) (exit : ℕ) (written : List ℕ) : Type 0 where
  pub starts : List ℤ
  pub feasible : IsFeasible p starts
  pub shortest : IsShortest p (makespan starts)
  pub text : written ≡ optimal_text json starts
  pub status : exit ≡ 0

-- that there is no schedule
pub record IsNoScheduleText (p : Problem) (json : Bool) (exit : ℕ) (written : List ℕ) : Type 0 where
  pub none : HasNoSchedule p
  pub text : written ≡ no_schedule_text json
  pub status : exit ≡ 0

-- where the search was stopped: a feasible schedule, and a number that no makespan is below; where one
-- thread searched by itself, it is below this schedule's
pub record IsFeasibleBoundText (p : Problem) (alone json : Bool) (exit : ℕ) (written : List ℕ) : Type 0 where
  pub starts : List ℤ
  pub bound : ℤ
  pub feasible : IsFeasible p starts
  pub holds : IsLowerBound p bound
  pub below : alone ≡ true → bound <ℤ makespan starts
  pub text : written ≡ feasible_text json bound starts
  pub status : exit ≡ 3

-- or that number alone
pub record IsUnknownText (p : Problem) (json : Bool) (exit : ℕ) (written : List ℕ) : Type 0 where
  pub bound : ℤ
  pub holds : IsLowerBound p bound
  pub text : written ≡ unknown_text json bound
  pub status : exit ≡ 3

-- of a search in one thread by itself or by workers; as plain lines, or as one line of JSON
abbrev pub IsSolveText : Problem → Bool → Bool → ℕ → List ℕ → Type 0
IsSolveText p alone json exit written =
    IsOptimalText p json exit written
    ⊎ (IsNoScheduleText p json exit written
    ⊎ (IsFeasibleBoundText p alone json exit written
    ⊎ IsUnknownText p json exit written))

-- where a search from a schedule was stopped: a feasible schedule that is no longer, and a number that no makespan is below
pub record IsImprovedText (p : Problem) (from : List ℤ) (json : Bool) (exit : ℕ) (written : List ℕ) : Type 0 where
  pub starts : List ℤ
  pub bound : ℤ
  pub feasible : IsFeasible p starts
  pub no_longer : makespan starts ≤ℤ makespan from
  pub holds : IsLowerBound p bound
  pub text : written ≡ feasible_text json bound starts
  pub status : exit ≡ 3

-- what workers say, who may have begun with a feasible schedule
abbrev pub IsFoundText : Problem → Option (List ℤ) → Bool → ℕ → List ℕ → Type 0
IsFoundText p None json exit written = IsSolveText p false json exit written
IsFoundText p (Some from) json exit written =
    IsOptimalText p json exit written ⊎ IsImprovedText p from json exit written

-- what is said where starts were handed in: all that they violate, or, where they are a feasible schedule, what workers have
-- found from it
abbrev pub IsStartedText : Problem → List ℤ → Bool → ℕ → List ℕ → Type 0
IsStartedText p starts json exit written =
    IsViolationsText p starts exit written ⊎ (IsFeasible p starts × IsFoundText p (Some starts) json exit written)
