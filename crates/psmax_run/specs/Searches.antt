-- What a search by workers replies.
use Rattle.std.specs.Prelude.{◌≡◌, ℕ, ℤ, List, Option, Some, None, IfSome, IsSomeAnd, option_map, vec_len}
use Rattle.network.specs.Problem.{Problem}
use Rattle.network.specs.Schedule.{ScheduleOf}
use Rattle.network.specs.declared.outcome.Outcome.{Outcome}
use Rattle.network.specs.declared.outcome.Outcome.TheVariants.{Optimal, NoSchedule, Stopped}
use Rattle.record_text.specs.declared.line.Claim.{Claim}
use Rattle.record_text.specs.Tree.{SearchRecord}
use Rattle.record_text.specs.Kinds.{record_text}
use Rattle.record_text.specs.Text.{search_kind}
use Rattle.search_record.specs.Right.{claim_of, IsRight}
use Rattle.devices.specs.declared.fault.Fault.{Fault}
use Rattle.devices.specs.declared.fault.Fault.TheVariants as faults
use Rattle.answers.specs.Answers.{IsFoundText}
use Rattle.psmax_run.specs.Outcomes.{IsRightRecord}
use Rattle.psmax_run.specs.declared.job.Job.TheVariants as jobs
use Rattle.psmax_run.specs.declared.job.SearchOptions.{SearchOptions}
use Rattle.psmax_run.specs.Jobs.{worker_count}
use Rattle.devices.specs.Runs.{ReplyOf}
use Rattle.psmax_run.specs.Runs.{RecordsWhereAsked}
use Rattle.worker.specs.Solving.{IsStopped}
use Rattle.worker.specs.declared.fault.SolveFault.{SolveFault}
use Rattle.worker.specs.declared.fault.SolveFault.TheVariants as solve_faults
use Rattle.worker.specs.declared.solution.Solved.{Solved}

-- the text is that of a record that is right for the project and claims this
pub record IsTextOf (p : Problem) (claim : Claim) (recorded : List ℕ) : Type 0 where
  pub shown : SearchRecord
  pub right : IsRight p shown
  pub claims : shown.claim ≡ claim
  pub text : recorded ≡ record_text search_kind shown

-- what is recorded of an outcome, where it is no stop
abbrev pub IsOutcomeRecord : Problem → Outcome → Option (List ℕ) → Type 0
IsOutcomeRecord p (Optimal best) kept = IsSomeAnd kept (IsTextOf p (claim_of (Some best)))
IsOutcomeRecord p NoSchedule kept = IsSomeAnd kept (IsTextOf p (claim_of None))
IsOutcomeRecord p (Stopped best bound) kept = kept ≡ None

-- as many workers have searched as are asked for, and a stopped search has taken as many nodes as are allowed
pub record IsAskedFor (o : SearchOptions) (solved : Solved) : Type 0 where
  pub workers : vec_len solved.per_worker ≡ worker_count o.workers
  pub nodes : IsStopped solved.outcome → solved.counts.taken ≡ o.nodes

-- the fault of the program for that of a search that may have so many workers and takes
abbrev pub IsSearchFaultOf : SolveFault → Fault → Type 0
IsSearchFaultOf solve_faults.Limit fault = ⊥
IsSearchFaultOf solve_faults.Memory fault = fault ≡ faults.Memory
IsSearchFaultOf solve_faults.Thread fault = fault ≡ faults.Thread
IsSearchFaultOf solve_faults.OtherProject fault = fault ≡ faults.OtherProject
IsSearchFaultOf (solve_faults.Refused why) fault = fault ≡ faults.Refused

-- the starts of a schedule that workers began with
abbrev pub starts_from : Option ScheduleOf → Option (List ℤ)
starts_from start = option_map (λ (s : ScheduleOf). s.starts) start

-- the answer of workers about the project, and a right record exactly where one is asked for and the answer is final
pub record IsSearchReply (o : SearchOptions) (p : Problem) (start : Option ScheduleOf) (reply : ReplyOf) : Type 0 where
  pub said : IsFoundText p (starts_from start) o.json reply.exit reply.text
  pub records : RecordsWhereAsked (jobs.Solve o) reply
  pub recorded : IfSome reply.recorded (IsRightRecord p o.json reply.text)
