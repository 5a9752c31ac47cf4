-- A search that words spell is what is done.
use Rattle.std.proofs.Common.{◌≡◌, List, ℕ, Option, Some, inl, codes}
use Rattle.std.specs.Prelude.{option_map}
use Rattle.clap.specs.Matches.{subcommand_name_of}
use Rattle.clap.specs.Simple.{subcommand_rows}
use Rattle.clap.specs.Walk.{rows_of}
use Rattle.clap.specs.declared.parser.matches.ArgMatches.{ArgMatches}
use Rattle.clap.specs.declared.parser.matches.ArgMatches.TheViews.{out-ArgMatches}
use Rattle.clap.specs.declared.parser.matches.Found.{Found}
use Rattle.command_line.proofs.Named.{named}
use Rattle.psprove.specs.declared.commands.Subcommand.{Subcommand}
use Rattle.psprove.specs.declared.commands.Subcommand.TheVariants as commands
use Rattle.psprove.specs.Calls.{IsSolveOf, IsWorkOf}

pub solved_work : (m : ArgMatches) (given : List ℕ) (f : Found) (work : Subcommand) → Some given ≡ subcommand_name_of m
    → Some (rows_of f) ≡ option_map (λ r. r.1) (subcommand_rows (out-ArgMatches m).subcommand) → given ≡ codes "solve" → IsSolveOf f work
    → IsWorkOf m work
solved_work m given f (commands.Solve call) is rows e has = inl (named m (codes "solve") given f _ is rows e has)
solved_work m given f (commands.Cube call) is rows e has = named m (codes "solve") given f _ is rows e has
solved_work m given f (commands.Verify call) is rows e has = absurd has
solved_work m given f (commands.Trim project) is rows e has = absurd has
