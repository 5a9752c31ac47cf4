-- The command that was found.
use Rattle.std.proofs.Common.{◌≡◌, ◌∙◌, List, ℕ, Option, None, Some, Result, Ok, Err, sym, ap}
use Rattle.std.specs.Prelude.{IfOk, IfSome, option_map}
use Rattle.clap.specs.Matches.{subcommand_name_of}
use Rattle.clap.specs.Simple.{subcommand_rows}
use Rattle.clap.specs.Walk.{rows_of}
use Rattle.clap.specs.declared.parser.matches.ArgMatches.{ArgMatches}
use Rattle.clap.specs.declared.parser.matches.ArgMatches.TheViews.{out-ArgMatches}
use Rattle.clap.specs.declared.parser.matches.Found.{Found}
use Rattle.command_line.specs.Found.{IsNamed}

pub named : (m : ArgMatches) (name given : List ℕ) (found : Found) (P : Found → Type 0) → Some given ≡ subcommand_name_of m
    → Some (rows_of found) ≡ option_map (λ r. r.1) (subcommand_rows (out-ArgMatches m).subcommand) → given ≡ name → P found → IsNamed m name P
named m name given found P is rows e has = record { found = found; is_name = sym is ∙ ap Some e; of_it = sym rows; has = has }

-- what holds of a result that may be missing
pub ok_some : {T E : Type 0} (P Q : T → Type 0) (r : Result (Option T) E) → ((x : T) → P x → Q x) → IfOk r (λ o. IfSome o P)
    → IfOk r (λ o. IfSome o Q)
ok_some P Q (Ok None) f h = tt
ok_some P Q (Ok (Some x)) f h = f x h
ok_some P Q (Err e) f h = tt
