-- What a job answers to the texts that it reads, and why it has no answer.
use Rattle.std.specs.Prelude.{ℕ, ◌||◌, Option, unwrap_or, is_some, Bool, true, false, ◌≡◌, List, ◌⊎◌}
pub use Rattle.psmax_run.specs.declared.job.Job.{Job}
pub use Rattle.psmax_run.specs.declared.job.SearchOptions.{SearchOptions}
use Rattle.psmax_run.specs.declared.job.Job.TheVariants as jobs
use Rattle.psmax_run.specs.declared.job.TheConstants.{ONE_WORKER}
use Rattle.book.specs.Steps.{AreAllowed}
use Rattle.network.specs.Problem.{Problem}
use Rattle.sch_reader.specs.Text.{canonical_text}
use Rattle.answers.specs.Answers.{IsEarliestText, IsCheckText, IsStartedText}
use Rattle.devices.specs.declared.fault.Fault.{Fault}
use Rattle.devices.specs.Texts.{GivesStarts, HasFault, Inputs, IsFirstStartsFault, IsSearchRefusal, SpellsOne}
use Rattle.psmax_run.specs.Outcomes.{IsUnstartedText}

-- ---- The jobs that a run does, and what each uses.

-- how many workers a search has
abbrev pub worker_count : Option ℕ → ℕ
worker_count workers = unwrap_or workers ONE_WORKER

-- the numbers of a job are within the limits
abbrev pub IsJob : Job → Type 0
IsJob (jobs.Solve o) = AreAllowed (worker_count o.workers) o.nodes
IsJob job = Unit {0}

-- whether it writes a record
abbrev pub writes_record : Job → Bool
writes_record (jobs.Solve o) = o.recorded
writes_record job = false

-- whether a job reads its project from the second input, and not from the first
abbrev pub project_is_second : Job → Bool
project_is_second jobs.Check = true
project_is_second job = false

-- whether a job reads a second input
abbrev pub reads_second : Job → Bool
reads_second (jobs.Solve o) = o.start
reads_second job = project_is_second job

-- whether workers search; one thread searches by itself where no workers are asked for, no starts are handed
-- in and no record is made
abbrev pub has_workers : Job → Bool
has_workers (jobs.Solve o) = is_some o.workers || (o.start || o.recorded)
has_workers job = false

-- whether it answers by a line of JSON
abbrev pub answers_json : Job → Bool
answers_json (jobs.Solve o) = o.json
answers_json job = false

-- those of a job
abbrev pub inputs_of : Job → Inputs
inputs_of job = record { second = reads_second job; project_second = project_is_second job }

-- the canonical text of a project, which `tidy` says
pub record IsTidyText (p : Problem) (exit : ℕ) (written : List ℕ) : Type 0 where
  pub text : written ≡ canonical_text p
  pub status : exit ≡ 0

-- what a search writes for a project, and for starts where these are handed in
abbrev pub IsSearchAnswer : Bool → Bool → ℕ → Bool → List ℕ → List ℕ → ℕ → List ℕ → Type 0
IsSearchAnswer false by_workers nodes json text second exit written =
    SpellsOne text (λ p. IsUnstartedText p by_workers nodes json exit written)
IsSearchAnswer true by_workers nodes json text second exit written =
    SpellsOne text (λ p. GivesStarts p second (λ starts. IsStartedText p starts json exit written))

-- what a job writes for its two texts, and the exit status
abbrev pub IsAnswer : Job → List ℕ → List ℕ → ℕ → List ℕ → Type 0
IsAnswer jobs.Earliest text second exit written = SpellsOne text (λ p. IsEarliestText p exit written)
IsAnswer (jobs.Solve o) text second exit written =
    IsSearchAnswer o.start (is_some o.workers || o.recorded) o.nodes o.json text second exit written
IsAnswer jobs.Check text second exit written = SpellsOne second (λ p. GivesStarts p text (λ starts. IsCheckText p starts exit written))
IsAnswer jobs.Tidy text second exit written = SpellsOne text (λ p. IsTidyText p exit written)

-- why a job has no answer to its two texts
abbrev pub IsRefusal : Job → List ℕ → List ℕ → Fault → Type 0
IsRefusal (jobs.Solve o) text second fault = IsSearchRefusal o.start text second fault
IsRefusal jobs.Check text second fault = HasFault second fault ⊎ SpellsOne second (λ p. IsFirstStartsFault p text fault)
IsRefusal job text second fault = HasFault text fault
