-- What a book keeps: a ledger, and the log of all that it took.
use Rattle.std.specs.Prelude.{◌≡◌, ◌⊎◌, Bool, true, false, ℕ, ℤ, List, Vec, Option, None, Some, IfSome, IsSome, IsNone, ◌++◌}
use Rattle.std.specs.List.{AllByRecursion}
use Rattle.std.specs.declared.alloc.Global.{Global}
use Rattle.network.specs.Schedule.{IsFeasible, IsTrueVerdict}
use Rattle.lemma_record.specs.declared.book.Shown.{Shown}
use Rattle.network.specs.declared.verdict.Verdict.{Verdict}
use Rattle.lemma_log.specs.declared.event.Event.{Event}
use Rattle.network.specs.Problem.{Problem}
use Rattle.lemma_log.specs.Text.{IsWritable, IsWritableBody, title_text}
use Rattle.lemma_log.specs.Logs.{log_text}
use Rattle.lemma_book.specs.Ledger.{LedgerOf, first_ledger}
use Rattle.lemma_record.specs.Right.{IsRightText}
use Rattle.lemma_record.specs.Right.{IsStep, Takes, TakesAll}

-- a ledger, and the text of the log so far; none once memory ran out for it
pub record BookOf : Type 0 where
  pub ledger : LedgerOf
  pub log : Option (List ℕ)

-- a book that took nothing
abbrev pub first_book : Problem → BookOf
first_book p = record { ledger = first_ledger p; log = Some title_text }

-- the text is that of steps which are taken one after another from the first ledger to this one
pub record IsLogOf (l : LedgerOf) (text : List ℕ) : Type 0 where
  pub steps : List Event
  pub are_steps : AllByRecursion IsStep steps
  pub writable : AllByRecursion IsWritable steps
  pub is : text ≡ log_text steps
  pub taken : TakesAll (first_ledger l.project) steps l

-- the log of a book is that of its ledger
abbrev pub IsBook : LedgerOf → Option (List ℕ) → Type 0
IsBook ledger log = IfSome log (IsLogOf ledger)

-- a step within the limits of a log, which the ledger takes
pub record MayOffer (l : LedgerOf) (e : Event) : Type 0 where
  pub step : IsStep e
  pub writable : IsWritableBody e
  pub after : LedgerOf
  pub takes : Takes l e after

-- an event that may be is taken and logged; or it may not be, and nothing changes
abbrev pub Offers : BookOf → Event → Bool → BookOf → Type 0
Offers old e true new = MayOffer old.ledger e × Takes old.ledger e new.ledger × IsSome new.log
Offers old e false new = (¬ MayOffer old.ledger e) × (new ≡ old)

-- memory ran out: nothing changes; or the event is taken, and no log is left
abbrev pub IsCutShort : BookOf → Event → BookOf → Type 0
IsCutShort old e new = (new ≡ old) ⊎ (Takes old.ledger e new.ledger × IsNone new.log)

-- ---- What a book shows in the end.

-- the log claims what is proved, and is right for the project, of which that is true
pub record IsProof (p : Problem) (log : List ℕ) (what : Verdict) : Type 0 where
  pub right : IsRightText p log what
  pub fact : IsTrueVerdict p what

-- What is shown in the end, after a log: with its last bytes the log proves it, and the best schedule is feasible.
pub record IsShownOf (p : Problem) (log : List ℕ) (shown : Shown) : Type 0 where
  pub proof : IsProof p (log ++ shown.end.items) shown.proved
  pub feasible : IfSome shown.best (λ starts. IsFeasible p starts.items)

-- the starts are those of the best schedule, if there is one
abbrev pub IsBest : LedgerOf → Option (Vec ℤ Global) → Type 0
IsBest l None = l.best ≡ None
IsBest l (Some starts) = l.best ≡ Some starts.items
