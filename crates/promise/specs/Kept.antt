-- That the programs keep the promise, where their contracts speak of plain lines.
use Rattle.std.specs.Prelude.{◌≡◌, ◌⊎◌, ℕ, List, false}
use Rattle.network.specs.Problem.{Problem}
use Rattle.devices.specs.Runs.{ReplyOf}
use Rattle.psmax_run.specs.declared.job.Job.TheVariants as jobs
use Rattle.psmax_run.specs.declared.job.SearchOptions.{SearchOptions}
use Rattle.psmax_run.specs.Runs as psmax_run
use Rattle.psprove_run.specs.declared.options.SolveOptions.{SolveOptions}
use Rattle.psprove_run.specs.Story as psprove_run
use Rattle.verify_run.specs.declared.scope.Scope.{Scope}
use Rattle.verify_run.specs.declared.scope.Scope.TheVariants as scopes
use Rattle.verify_run.specs.declared.verifying.RecordKind.{RecordKind}
use Rattle.verify_run.specs.Verified.{IsProof}
use Rattle.promise.specs.Promise.{IsAnswer, IsProved, Spells}

-- a reply to the text of a project, and perhaps to one of starts, is a true answer
abbrev pub PsmaxKeeps : Type 0
PsmaxKeeps = (o : SearchOptions) (reply : ReplyOf) (text more : List ℕ) → o.json ≡ false →
    psmax_run.IsReply (jobs.Solve o) reply text more → IsAnswer text reply.exit reply.text

abbrev pub PsproveKeeps : Type 0
PsproveKeeps = (asked : SolveOptions) (reply : ReplyOf) (text more : List ℕ) → asked.json ≡ false →
    psprove_run.IsReply asked reply text more → IsAnswer text reply.exit reply.text

-- the project is on the second input
abbrev pub VerifyKeeps : Type 0
VerifyKeeps = (scope : Scope) (own : RecordKind) (text second written : List ℕ) → (scope ≡ scopes.Whole) ⊎ (scope ≡ scopes.SoFar) →
    IsProof scope own text second written → (p : Problem) × Spells second p × IsProved p written
