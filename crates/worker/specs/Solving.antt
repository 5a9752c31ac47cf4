-- What a search by workers says in the end.
use Rattle.std.specs.Prelude.{◌≡◌, ◌+◌, ◌<◌, ◌≤ℤ◌, ◌↔◌, ℕ, ℤ, Bool, true, false, List, [], ◌∷◌, Option, None, Some}
use Rattle.std.specs.Prelude.{IfSome, IsSomeAnd, length, sum, vec_len, ◌≢◌, Result, Ok, Err}
use Rattle.std.specs.Option.{option_or}
use Rattle.std.specs.Result.{result_err}
use Rattle.network.specs.Problem.{Problem}
use Rattle.network.specs.Schedule.{ScheduleOf, makespan}
use Rattle.branching.specs.Fair.{ceiling_of}
use Rattle.network.specs.Verdicts.{IsNoLongerThan, IsTrueOf, best_of}
use Rattle.network.specs.declared.outcome.Outcome.{Outcome}
use Rattle.network.specs.declared.outcome.Outcome.TheVariants.{Optimal, NoSchedule, Stopped}
use Rattle.branching.specs.Right.{IsLeast}
use Rattle.book.specs.State.{BookState, live, AddUp}
use Rattle.search_log.specs.SearchLog.{TrailOf}
use Rattle.book.specs.Sound.{known_bounds}
use Rattle.search_log.specs.RightTrail.{IsWholeTree}
use Rattle.worker.specs.declared.solution.Solved.{Solved}
use Rattle.book.specs.Steps.{AreAllowed, Improves}
use Rattle.book.specs.declared.answers.BookFault.{BookFault}
use Rattle.book.specs.declared.answers.BookFault.TheVariants as book_fault
use Rattle.worker.specs.declared.fault.SolveFault.{SolveFault}
use Rattle.worker.specs.declared.fault.SolveFault.TheVariants as fault
use Rattle.shared_book.specs.declared.fault.WorkFault.{WorkFault}
use Rattle.shared_book.specs.declared.fault.WorkFault.TheVariants as work_fault

-- the search was stopped before it was over
abbrev pub IsStopped : Outcome → Type 0
IsStopped (Optimal best) = ⊥
IsStopped NoSchedule = ⊥
IsStopped (Stopped best bound) = Unit {0}

-- a book's best takes at most so many periods
abbrev pub HasBestWithin : ℤ → BookState → Type 0
HasBestWithin length s = IsSomeAnd s.best (λ best. makespan best.starts ≤ℤ length)

-- what a book says in the end: its best, and its lower bound while nodes are open or in hand
abbrev pub IsOutcomeOf : BookState → Outcome → Type 0
IsOutcomeOf s (Optimal best) = (live s ≡ []) × (s.best ≡ Some best)
IsOutcomeOf s NoSchedule = (live s ≡ []) × (s.best ≡ None)
IsOutcomeOf s (Stopped best bound) =
    (0 < length (live s)) × (s.best ≡ best) × IsLeast (known_bounds s) (Some bound)

-- the best of a book to which a schedule was offered, if there was one
abbrev pub IsBestAfter : BookState → Option ScheduleOf → Option ScheduleOf → Type 0
IsBestAfter s start best = (improved : Bool) × Improves s.best start improved best

-- what a book says in the end to which a schedule was offered, if there was one
abbrev pub IsOutcomeAfter : BookState → Option ScheduleOf → Outcome → Type 0
IsOutcomeAfter s start outcome =
    (best : Option ScheduleOf) × IsBestAfter s start best × IsOutcomeOf (record s { best = best }) outcome

-- The outcome is true of the project, and tells no longer schedule than the start, if there was one. The counts of the
-- book add up. The outcome is Stopped exactly where nodes are left open or in hand, and then as many were taken as may
-- be. Each worker has a number of its own, and these numbers add up to the nodes that were checked in.
pub record IsSolution (p : Problem) (workers takes : ℕ) (start : Option ScheduleOf) (solved : Solved) : Type 0 where
  pub true_of : IsTrueOf p solved.outcome
  pub from_start : IfSome start (λ s. IsNoLongerThan (makespan s.starts) solved.outcome)
  pub add_up : AddUp solved.counts
  pub left : IsStopped solved.outcome ↔ (0 < solved.counts.waiting + solved.counts.hand)
  pub taken : IsStopped solved.outcome → solved.counts.taken ≡ takes
  pub each : vec_len solved.per_worker ≡ workers
  pub shares : sum solved.per_worker.items ≡ solved.counts.checked

-- The trail is of the project. Where the search was not stopped, it is a whole tree under the makespan of the outcome.
pub record IsTrailOf (p : Problem) (outcome : Outcome) (trail : TrailOf) : Type 0 where
  pub of_project : trail.project ≡ p
  pub whole : ¬ IsStopped outcome → IsWholeTree p (ceiling_of (best_of outcome)) trail.entries

-- ---- What a search by workers may fail with.

-- a book that can't be opened, as a fault of the search
abbrev pub IsSolveFault : BookFault → SolveFault → Type 0
IsSolveFault book_fault.Limit found = found ≡ fault.Limit
IsSolveFault book_fault.Memory found = found ≡ fault.Memory

-- why a worker ended before the search was over, as a fault of the search
abbrev pub IsWorkFault : WorkFault → SolveFault → Type 0
IsWorkFault work_fault.Memory found = found ≡ fault.Memory
IsWorkFault (work_fault.Refused why) found = found ≡ fault.Refused why

-- a fault of a worker: want of memory, or a refusal of the book
abbrev pub IsOfWork : SolveFault → Type 0
IsOfWork found = (why : WorkFault) × IsWorkFault why found

-- the fault of the first worker that had one, where each stands beside how it ended
abbrev pub first_fault : {D : Type 0} → List (D × Result (Unit {0}) WorkFault) → Option WorkFault
first_fault [] = None
first_fault (e ∷ ends) = option_or (result_err e.1) (first_fault ends)

-- a search of which a thread could not be started ends with Thread, any other with the first fault of its workers
abbrev pub EndsSearch : Bool → Option WorkFault → Result (Unit {0}) SolveFault → Type 0
EndsSearch false first ended = ended ≡ Err fault.Thread
EndsSearch true None ended = ended ≡ Ok tt
EndsSearch true (Some why) ended = (found : SolveFault) × (ended ≡ Err found) × IsWorkFault why found

-- a fault of a search that may have so many workers and takes
abbrev pub IsNotLimit : SolveFault → Type 0
IsNotLimit found = found ≢ fault.Limit

-- Limit comes exactly where there may not be so many workers or takes
abbrev pub RefusesLimits : {A : Type 0} → ℕ → ℕ → Result A SolveFault → Type 0
RefusesLimits workers takes (Ok found) = AreAllowed workers takes
RefusesLimits workers takes (Err found) = (found ≡ fault.Limit) ↔ ¬ AreAllowed workers takes
