-- How far a log is checked that comes piece by piece.
use Rattle.std.specs.Prelude.{Bool, ◌≡◌, ◌⊎◌, ℕ, List, [], length, Ok, Err, Option, None, Some, MatchOption}
use Rattle.network.specs.Problem.{Problem}
use Rattle.network.specs.declared.verdict.Verdict.{Verdict}
use Rattle.lemma_log.specs.declared.event.Event.{Event}
use Rattle.lemma_log.specs.declared.event.Event.TheVariants as event
use Rattle.lemma_log.specs.declared.fault.DecodeFault.TheVariants.{Short}
use Rattle.lemma_log.specs.Reading.{read_in, title_in}
use Rattle.lemma_log.specs.Logs.{Begins}
use Rattle.lemma_book.specs.Ledger.{LedgerOf, first_ledger}
use Rattle.lemma_record.specs.Parts.{IsRightIn, PartOf, TakesIf, number_after}
use Rattle.lemma_record.specs.Faults.{LeadsTo}

-- ---- one event

-- what an event claims
abbrev pub claimed : Event → Option Verdict
claimed (event.Lemma slot arcs lines) = None
claimed (event.Drop slot) = None
claimed (event.Schedule starts) = None
claimed (event.Claim c) = Some c

-- an event comes first, it is taken, its lines being looked at or not, it claims this, and these bytes are left
pub record TakesNext (looks : Bool) (old : LedgerOf) (bytes : List ℕ) (claim : Option Verdict) (left : List ℕ) (new : LedgerOf) : Type 0 where
  pub next : Event
  pub read : read_in bytes ≡ Ok (record { value = next; left = left })
  pub takes : TakesIf looks old next new
  pub claims : claim ≡ claimed next

-- ---- so far

-- the text is a title and steps that lead to this ledger, and bytes that are left; this number of event is due
pub record IsAt (part : PartOf) (p : Problem) (text : List ℕ) (l : LedgerOf) (left : List ℕ) (due : ℕ) : Type 0 where
  pub steps : List Event
  pub leads : LeadsTo part p text steps l left
  pub number : due ≡ number_after (length steps)

-- the text is right events, of which the last claims this, and bytes that are left; this number would be due
pub record HasClaimed (part : PartOf) (p : Problem) (text left : List ℕ) (what : Verdict) (due : ℕ) : Type 0 where
  pub events : List Event
  pub begins : Begins text events left
  pub right : IsRightIn part p events what
  pub number : due ≡ number_after (length events)

-- ---- what is kept between pieces

-- the part that is checked, what is said to be proved, the bytes that are not used yet, the number of the event that is due, and what was claimed
pub record CheckerOf : Type 0 where
  pub part : PartOf
  pub ledger : LedgerOf
  pub left : List ℕ
  pub due : ℕ
  pub proved : Option Verdict

abbrev pub checker_of : PartOf → LedgerOf → List ℕ → ℕ → Option Verdict → CheckerOf
checker_of part ledger left due proved = record { part = part; ledger = ledger; left = left; due = due; proved = proved }

-- the title is due
pub record IsAtTitle (p : Problem) (text : List ℕ) (x : CheckerOf) : Type 0 where
  pub ledger : x.ledger ≡ first_ledger p
  pub left : x.left ≡ text
  pub due : x.due ≡ 0
  pub going : x.proved ≡ None

-- the title or an event is due, of which not all has come
abbrev pub Awaits : Problem → List ℕ → CheckerOf → Type 0
Awaits p text x =
    (IsAtTitle p text x × (title_in text ≡ Err Short))
    ⊎ (IsAt x.part p text x.ledger x.left x.due × (read_in x.left ≡ Err Short))

-- this text has come, and what is whole of it was checked
abbrev pub HasChecked : Problem → List ℕ → CheckerOf → Type 0
HasChecked p text x = MatchOption x.proved (Awaits p text x) (λ what. HasClaimed x.part p text [] what x.due)
