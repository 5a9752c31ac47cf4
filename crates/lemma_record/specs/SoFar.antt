-- What a log proves of a project as far as it goes.
use Rattle.std.specs.Prelude.{◌≡◌, ◌⊎◌, List, ℕ, Err}
use Rattle.network.specs.Schedule.{IsTrueVerdict}
use Rattle.network.specs.Problem.{IsProject, Problem}
use Rattle.network.specs.declared.verdict.Verdict.{Verdict}
use Rattle.lemma_log.specs.declared.event.Event.{Event}
use Rattle.lemma_log.specs.declared.fault.DecodeFault.TheVariants.{Short}
use Rattle.lemma_log.specs.Reading.{read_in, title_in}
use Rattle.lemma_book.specs.Ledger.{Claims, LedgerOf, first_ledger}
use Rattle.lemma_record.specs.Right.{IsRightText}
use Rattle.lemma_record.specs.Parts.{whole}
use Rattle.lemma_record.specs.Faults.{LeadsTo}

-- the text ends within the title, and the first ledger claims this
pub record IsCutInTitle (p : Problem) (text : List ℕ) (what : Verdict) : Type 0 where
  pub short : title_in text ≡ Err Short
  pub claims : Claims (first_ledger p) what

-- the text ends after steps, before or within an event, and the ledger that they lead to claims this
pub record IsCutOff (p : Problem) (text : List ℕ) (what : Verdict) : Type 0 where
  pub steps : List Event
  pub ledger : LedgerOf
  pub left : List ℕ
  pub leads : LeadsTo whole p text steps ledger left
  pub short : read_in left ≡ Err Short
  pub claims : Claims ledger what

-- a right log proves what it claims, and one that is cut off what the ledger claims there
abbrev pub IsProvedSoFar : Problem → List ℕ → Verdict → Type 0
IsProvedSoFar p text what = IsRightText p text what ⊎ IsCutInTitle p text what ⊎ IsCutOff p text what

-- that is true of the project
abbrev pub SoFarIsTrue : Type 0
SoFarIsTrue = (p : Problem) (text : List ℕ) (what : Verdict) → IsProject p → IsProvedSoFar p text what → IsTrueVerdict p what
