-- When the outcome of a search is true of its project.
use Rattle.std.specs.Prelude.{ℤ, ◌≤ℤ◌, ◌<ℤ◌, Option, Some, None, IfSome, IsSomeAnd}
use Rattle.network.specs.Problem.{Problem}
use Rattle.network.specs.Schedule.{ScheduleOf, IsScheduleFor, makespan, IsTrueVerdict}
use Rattle.network.specs.declared.verdict.Verdict.{Verdict}
use Rattle.network.specs.declared.verdict.Verdict.TheVariants as verdict
use Rattle.network.specs.declared.outcome.Outcome.{Outcome}
use Rattle.network.specs.declared.outcome.Outcome.TheVariants.{Optimal, NoSchedule, Stopped}

-- the verdict of an outcome
abbrev pub verdict_of : Outcome → Verdict
verdict_of (Optimal best) = verdict.Optimal (makespan best.starts)
verdict_of NoSchedule = verdict.NoSchedule
verdict_of (Stopped best bound) = verdict.Bound bound

-- the shortest schedule that was found
abbrev pub best_of : Outcome → Option ScheduleOf
best_of (Optimal best) = Some best
best_of NoSchedule = None
best_of (Stopped best bound) = best

-- the verdict is true, and the best is a feasible schedule
pub record IsTrueOf (p : Problem) (outcome : Outcome) : Type 0 where
  pub verdict : IsTrueVerdict p (verdict_of outcome)
  pub found : IfSome (best_of outcome) (IsScheduleFor p)

-- a schedule is told, and it takes at most so many periods
abbrev pub IsNoLongerThan : ℤ → Outcome → Type 0
IsNoLongerThan length (Optimal best) = makespan best.starts ≤ℤ length
IsNoLongerThan length NoSchedule = ⊥
IsNoLongerThan length (Stopped best bound) = IsSomeAnd best (λ s. makespan s.starts ≤ℤ length)

-- where the search was stopped, its bound is below the best's makespan
abbrev pub StopsBelowBest : Outcome → Type 0
StopsBelowBest (Optimal best) = Unit {0}
StopsBelowBest NoSchedule = Unit {0}
StopsBelowBest (Stopped best bound) = IfSome best (λ s. bound <ℤ makespan s.starts)
