-- Which calls there are.
use Rattle.std.specs.Prelude.{◌≡◌, ◌⊎◌, is_some, codes}
use Rattle.clap.specs.Matches.{first_value}
use Rattle.clap.specs.declared.parser.matches.ArgMatches.{ArgMatches}
use Rattle.clap.specs.declared.parser.matches.Found.{Found}
use Rattle.command_line.specs.Found.{IsFlag, IsNamed, IsNumber, IsNumberOr, IsVerifyOf, Names}
use Rattle.psmax_run.specs.declared.job.SearchOptions.{SearchOptions}
use Rattle.psmax_run.specs.declared.job.Job.TheVariants as jobs
use Rattle.psmax.specs.declared.call.Call.{Call}
use Rattle.psmax.specs.declared.call.PsmaxCall.{PsmaxCall}
use Rattle.psmax.specs.declared.call.PsmaxCall.TheVariants.{Run, Verify}
use Rattle.psmax_run.specs.Jobs.{IsJob, reads_second, writes_record}

-- the job is within the limits, and just the files that it uses have names
pub record IsCall (c : Call) : Type 0 where
  pub job : IsJob c.job
  pub second : is_some c.names.second ≡ reads_second c.job
  pub record_file : is_some c.names.record_file ≡ writes_record c.job

-- a search that the words of `solve` spell
pub record IsSolveOf (f : Found) (call : Call) : Type 0 where
  pub options : SearchOptions
  pub job : call.job ≡ jobs.Solve options
  pub workers : IsNumber f (codes "workers") options.workers
  pub nodes : IsNumberOr 0 f (codes "nodes") options.nodes
  pub start : options.start ≡ is_some (first_value f (codes "start"))
  pub json : IsFlag f (codes "json") options.json
  pub recorded : options.recorded ≡ is_some (first_value f (codes "record"))
  pub second : Names f (codes "start") call.names.second
  pub record_file : Names f (codes "record") call.names.record_file

-- a check that the words of `check` spell
pub record IsCheckOf (f : Found) (call : Call) : Type 0 where
  pub job : call.job ≡ jobs.Check
  pub project : Names f (codes "project") call.names.second

-- the job is that of the command which was found, and as its words say
abbrev pub IsCallOf : ArgMatches → Call → Type 0
IsCallOf m call =
    IsNamed m (codes "earliest") (λ f. call.job ≡ jobs.Earliest)
    ⊎ (IsNamed m (codes "solve") (λ f. IsSolveOf f call)
    ⊎ (IsNamed m (codes "check") (λ f. IsCheckOf f call)
    ⊎ IsNamed m (codes "tidy") (λ f. call.job ≡ jobs.Tidy)))

abbrev pub IsWorkOf : ArgMatches → PsmaxCall → Type 0
IsWorkOf m (Run call) = IsCallOf m call
IsWorkOf m (Verify call) = IsNamed m (codes "verify") (λ f. IsVerifyOf f call)

-- and any check of a record is one
abbrev pub IsPsmaxCall : PsmaxCall → Type 0
IsPsmaxCall (Run call) = IsCall call
IsPsmaxCall (Verify call) = Unit {0}
