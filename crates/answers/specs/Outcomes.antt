-- What is said of an outcome.
use Rattle.std.specs.Prelude.{◌≡◌, ℕ, ℤ, List, Bool, true, false, Option, Some, None, IfSome}
use Rattle.network.specs.Problem.{Problem}
use Rattle.network.specs.Schedule.{makespan}
use Rattle.network.specs.declared.outcome.Outcome.{Outcome}
use Rattle.network.specs.declared.outcome.Outcome.TheVariants.{Optimal, NoSchedule, Stopped}
use Rattle.network.specs.Verdicts.{IsNoLongerThan, IsTrueOf, StopsBelowBest}
use Rattle.answers.specs.Answers.{optimal_text, no_schedule_text, feasible_text, unknown_text, IsSolveText, IsFoundText}

-- what is said of an outcome, and the exit status
abbrev pub SaysOutcome : Outcome → Bool → ℕ → List ℕ → Type 0
SaysOutcome (Optimal best) json exit written = (exit ≡ 0) × (written ≡ optimal_text json best.starts)
SaysOutcome NoSchedule json exit written = (exit ≡ 0) × (written ≡ no_schedule_text json)
SaysOutcome (Stopped (Some best) bound) json exit written = (exit ≡ 3) × (written ≡ feasible_text json bound best.starts)
SaysOutcome (Stopped None bound) json exit written = (exit ≡ 3) × (written ≡ unknown_text json bound)

-- that is an answer of `solve` for each project of which the outcome is true
abbrev pub SaidIsTrue : Type 0
SaidIsTrue = (p : Problem) (outcome : Outcome) (alone json : Bool) (exit : ℕ) (written : List ℕ) →
    IsTrueOf p outcome → (alone ≡ true → StopsBelowBest outcome) → SaysOutcome outcome json exit written → IsSolveText p alone json exit written

-- and one of workers, where it tells no longer schedule than they began with
abbrev pub FoundIsTrue : Type 0
FoundIsTrue = (p : Problem) (from : Option (List ℤ)) (outcome : Outcome) (json : Bool) (exit : ℕ) (written : List ℕ) →
    IsTrueOf p outcome → IfSome from (λ s. IsNoLongerThan (makespan s) outcome) → SaysOutcome outcome json exit written →
    IsFoundText p from json exit written
