-- Which call the words of a command spell: each option has the value that the words give it, and no other one has any.
use Rattle.std.specs.Prelude.{◌≡◌, ◌*◌, ◌-◌, ◌^◌, ◌⊎◌, min, ℕ, List, false, Option, None, Some, is_some, codes, string_bytes, unwrap_or}
use Rattle.clap.specs.Matches.{first_value}
use Rattle.clap.specs.declared.parser.matches.ArgMatches.{ArgMatches}
use Rattle.clap.specs.declared.parser.matches.Found.{Found}
use Rattle.command_line.specs.Found.{IsFlag, IsNamed, IsNumber, IsNumberOr, IsVerifyOf, Names}
use Rattle.session.specs.declared.limits.Limits.{Limits}
use Rattle.psprove.specs.declared.reports.ReportForm.{ReportForm}
use Rattle.psprove.specs.declared.reports.ReportForm.TheVariants as forms
use Rattle.psprove.specs.declared.solve.SolveCall.{SolveCall}
use Rattle.psprove.specs.declared.cube.CubeCall.{CubeCall}
use Rattle.psprove.specs.declared.commands.Subcommand.{Subcommand}
use Rattle.psprove.specs.declared.commands.Subcommand.TheVariants as commands

-- bytes that are given in MiB
abbrev pub AreMebibytes : Found → List ℕ → ℕ → Type 0
AreMebibytes f option n = (m : ℕ) × IsNumberOr 1 f option m × (n ≡ min (m * 2 ^ 20) (2 ^ 64 - 1))

-- the limits of a search but the number of its jobs
pub record AreLimits (f : Found) (l : Limits) : Type 0 where
  pub conflicts : IsNumberOr (2 ^ 64 - 1) f (codes "conflicts") l.conflicts
  pub seconds : IsNumberOr 0 f (codes "seconds") l.seconds
  pub seed : IsNumberOr 0 f (codes "seed") l.seed
  pub memory : AreMebibytes f (codes "memory") l.memory
  pub below : IsNumber f (codes "below") l.below

-- how a search reports
abbrev pub IsFormOf : Option (List ℕ) → ReportForm → Type 0
IsFormOf word forms.Nothing = word ≡ None
IsFormOf word forms.Json = word ≡ Some (codes "json")
IsFormOf word forms.Lines = (form : List ℕ) × (word ≡ Some form) × ¬ (form ≡ codes "json")

-- the files that a session begins with, and how it answers
pub record IsBegun (f : Found) (call : SolveCall) : Type 0 where
  pub start : Names f (codes "start") call.start
  pub starts : call.options.start ≡ is_some (first_value f (codes "start"))
  pub json : IsFlag f (codes "json") call.options.json
  pub record_file : Names f (codes "record") call.record
  pub project : Names f (codes "project") call.project

-- a search of a project
pub record IsSearchOf (f : Found) (call : SolveCall) : Type 0 where
  pub begun : IsBegun f call
  pub limits : AreLimits f call.options.limits
  pub jobs : IsNumberOr 1 f (codes "jobs") call.options.limits.jobs
  pub form : IsFormOf (first_value f (codes "progress")) call.form
  pub resume : Names f (codes "resume") call.resume
  pub until : Names f (codes "until") call.until
  pub follow : IsFlag f (codes "follow") call.follow
  pub tree : call.tree ≡ None

-- a join: nothing is searched
pub record IsJoinOf (f : Found) (call : SolveCall) : Type 0 where
  pub begun : IsBegun f call
  pub tree : Names f (codes "tree") call.tree
  pub jobs : call.options.limits.jobs ≡ 0
  pub form : call.form ≡ forms.Nothing
  pub resume : call.resume ≡ None
  pub until : call.until ≡ None
  pub follow : call.follow ≡ false

-- a search of a cube by one job
pub record IsCubeOf (f : Found) (call : CubeCall) : Type 0 where
  pub limits : AreLimits f call.limits
  pub jobs : call.limits.jobs ≡ 1
  pub pieces : IsNumberOr 1 f (codes "pieces") call.pieces
  pub project : string_bytes call.project ≡ unwrap_or (first_value f (codes "project")) (codes "")
  pub path : first_value f (codes "under") ≡ Some (string_bytes call.path)
  pub start : Names f (codes "start") call.start
  pub guide : Names f (codes "guide") call.guide
  pub import_file : Names f (codes "import") call.import
  pub export_file : Names f (codes "export") call.export
  pub record_file : string_bytes call.record ≡ unwrap_or (first_value f (codes "record")) (codes "")
  pub until : Names f (codes "until") call.until
  pub follow : IsFlag f (codes "follow") call.follow

-- ---- commands

-- a search: of a cube if there is a path
abbrev pub IsSolveOf : Found → Subcommand → Type 0
IsSolveOf f (commands.Solve call) = (first_value f (codes "under") ≡ None) × IsSearchOf f call
IsSolveOf f (commands.Cube call) = IsCubeOf f call
IsSolveOf f work = ⊥

-- what is done is what the words spell
abbrev pub IsWorkOf : ArgMatches → Subcommand → Type 0
IsWorkOf m (commands.Verify call) = IsNamed m (codes "verify") (λ f. IsVerifyOf f call)
IsWorkOf m (commands.Trim project) = IsNamed m (codes "trim") (λ f. string_bytes project ≡ unwrap_or (first_value f (codes "project")) (codes ""))
IsWorkOf m (commands.Cube call) = IsNamed m (codes "solve") (λ f. IsCubeOf f call)
IsWorkOf m (commands.Solve call) =
    IsNamed m (codes "solve") (λ f. (first_value f (codes "under") ≡ None) × IsSearchOf f call)
    ⊎ IsNamed m (codes "join") (λ f. IsJoinOf f call)
