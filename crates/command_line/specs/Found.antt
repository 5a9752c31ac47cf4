-- What options give, in what `clap` found in the words of a command.
use Rattle.std.specs.Prelude.{◌≡◌, ◌++◌, ◌<◌, ◌^◌, ℕ, List, Bool, true, false, Option, None, Some, codes, option_map, string_bytes, unwrap_or}
use Rattle.std.specs.declared.string.String.{String}
use Rattle.std.specs.declared.alloc.Global.{Global}
use Rattle.std.specs.Str.Parse.{IsNumeral, digits_value, without_leading_plus}
use Rattle.clap.specs.Matches.{first_value, one_text, subcommand_name_of}
use Rattle.clap.specs.Simple.{subcommand_rows}
use Rattle.clap.specs.Walk.{rows_of}
use Rattle.clap.specs.declared.parser.matches.ArgMatches.{ArgMatches}
use Rattle.clap.specs.declared.parser.matches.ArgMatches.TheViews.{out-ArgMatches}
use Rattle.clap.specs.declared.parser.matches.Found.{Found}
use Rattle.lemma_record.specs.Parts.{PartOf}
use Rattle.verify_run.specs.declared.scope.Scope.{Scope}
use Rattle.verify_run.specs.declared.scope.Scope.TheVariants as scopes
use Rattle.command_line.specs.declared.verifying.VerifyCall.{VerifyCall}

-- the name that an option gives, if it is there
abbrev pub Names : Found → List ℕ → Option (String Global) → Type 0
Names f option name = option_map string_bytes name ≡ first_value f option

-- whether a flag is there
pub record IsFlag (f : Found) (option : List ℕ) (is : Bool) : Type 0 where
  pub there : one_text f option ≡ Some (codes "true") → is ≡ true
  pub not_there : one_text f option ≡ Some (codes "false") → is ≡ false
  pub unknown : one_text f option ≡ None → is ≡ false

-- digits, which a plus may precede, of a number that fits 64 bits
abbrev pub Spell : List ℕ → Type 0
Spell text = IsNumeral 10 (without_leading_plus text) × (digits_value 10 (without_leading_plus text) < 2 ^ 64)

-- the number that a text spells, if there is a text and it spells one
abbrev pub IsSpelled : Option (List ℕ) → Option ℕ → Type 0
IsSpelled None n = n ≡ None
IsSpelled (Some text) None = ¬ Spell text
IsSpelled (Some text) (Some n) = Spell text × (n ≡ digits_value 10 (without_leading_plus text))

-- the number that an option gives, if it is there
abbrev pub IsNumber : Found → List ℕ → Option ℕ → Type 0
IsNumber f option n = IsSpelled (one_text f option) n

-- the number that an option gives, or another one
abbrev pub IsNumberOr : ℕ → Found → List ℕ → ℕ → Type 0
IsNumberOr otherwise f option n = (given : Option ℕ) × IsNumber f option given × (n ≡ unwrap_or given otherwise)

-- the command has this name, and what was found of it this property
pub record IsNamed (m : ArgMatches) (name : List ℕ) (P : Found → Type 0) : Type 0 where
  pub found : Found
  pub is_name : subcommand_name_of m ≡ Some name
  pub of_it : option_map (λ r. r.1) (subcommand_rows (out-ArgMatches m).subcommand) ≡ Some (rows_of found)
  pub has : P found

-- ---- `verify`

-- a word names a part, as `2/8`
pub record NamesPart (word : List ℕ) (part : PartOf) : Type 0 where
  pub number : List ℕ
  pub count : List ℕ
  pub is : word ≡ number ++ (codes "/" ++ count)
  pub number_is : IsSpelled (Some number) (Some part.number)
  pub count_is : IsSpelled (Some count) (Some part.count)

-- what is checked: the part that `--part` names; else what `--partial` says
abbrev pub IsScopeOf : Found → Scope → Type 0
IsScopeOf f scopes.Whole = (first_value f (codes "part") ≡ None) × IsFlag f (codes "partial") false
IsScopeOf f scopes.SoFar = (first_value f (codes "part") ≡ None) × IsFlag f (codes "partial") true
IsScopeOf f (scopes.Part part) = (word : List ℕ) × (first_value f (codes "part") ≡ Some word) × NamesPart word part

-- the check that words ask for
pub record IsVerifyOf (f : Found) (call : VerifyCall) : Type 0 where
  pub project : Names f (codes "project") (Some call.project)
  pub scope : IsScopeOf f call.scope
