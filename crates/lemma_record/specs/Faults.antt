-- The first fault of a log that is not right for a project, or in a part of it.
use Rattle.std.specs.Prelude.{◌≡◌, ◌≢◌, ◌⊎◌, ℕ, List, [], length, Err, Ok}
use Rattle.std.specs.List.{AllByRecursion}
use Rattle.network.specs.Problem.{Problem}
use Rattle.lemma_log.specs.declared.event.Event.{Event}
use Rattle.lemma_log.specs.declared.event.Event.TheVariants as event
use Rattle.network.specs.declared.verdict.Verdict.{Verdict}
use Rattle.lemma_log.specs.declared.fault.DecodeFault.TheVariants as reading
use Rattle.lemma_log.specs.Reading.{read_in, title_in}
use Rattle.lemma_log.specs.Logs.{Begins}
use Rattle.lemma_book.specs.Ledger.{LedgerOf, first_ledger}
use Rattle.record_text.specs.declared.event_fault.EventFault.{EventFault}
use Rattle.record_text.specs.declared.event_fault.Wrong.{Wrong}
use Rattle.record_text.specs.declared.event_fault.Wrong.TheVariants as wrong
use Rattle.lemma_record.specs.Right.{IsRightText, IsStep, Takes}
use Rattle.lemma_record.specs.Parts.{IsRightIn, PartOf, TakesPart, number_after}

-- the text begins with the title and these steps, which lead from the first ledger to this one as the part is checked;
-- and this is left
pub record LeadsTo (part : PartOf) (p : Problem) (text : List ℕ) (steps : List Event) (l : LedgerOf) (left : List ℕ) : Type 0 where
  pub begins : Begins text steps left
  pub are_steps : AllByRecursion IsStep steps
  pub taken : TakesPart part 0 (first_ledger p) steps l

-- ---- the title

abbrev pub IsWrongTitle : List ℕ → Wrong → Type 0
IsWrongTitle text wrong.Form = title_in text ≡ Err reading.Form
IsWrongTitle text wrong.Short = title_in text ≡ Err reading.Short
IsWrongTitle text w = ⊥

-- the text begins with no title, or ends within it
pub record IsTitleFault (text : List ℕ) (fault : EventFault) : Type 0 where
  pub number : fault.event ≡ 0
  pub title : IsWrongTitle text fault.wrong

-- ---- an event

-- what is wrong with an event that is not taken
abbrev pub wrong_of : Event → Wrong
wrong_of (event.Lemma slot arcs lines) = wrong.Lemma
wrong_of (event.Drop slot) = wrong.Drop
wrong_of (event.Schedule starts) = wrong.Schedule
wrong_of (event.Claim c) = wrong.Claim

-- an event comes first, and the ledger doesn't take it
pub record IsNotTaken (l : LedgerOf) (left : List ℕ) (w : Wrong) : Type 0 where
  pub next : Event
  pub more : List ℕ
  pub read : read_in left ≡ Ok (record { value = next; left = more })
  pub never : (after : LedgerOf) → ¬ Takes l next after
  pub named : w ≡ wrong_of next

-- what comes first is no event, or a lemma of more arcs than it may have
abbrev pub IsUnread : List ℕ → Wrong → Type 0
IsUnread left w = ((w ≡ wrong.Form) × (read_in left ≡ Err reading.Form)) ⊎ ((w ≡ wrong.Long) × (read_in left ≡ Err reading.Long))

-- or an event that the ledger doesn't take, whatever follows
abbrev pub IsWrongEvent : LedgerOf → List ℕ → Wrong → Type 0
IsWrongEvent l left w = IsUnread left w ⊎ IsNotTaken l left w

-- or the bytes end before there is an event
abbrev pub IsWrongNext : LedgerOf → List ℕ → Wrong → Type 0
IsWrongNext l left w = ((w ≡ wrong.Short) × (read_in left ≡ Err reading.Short)) ⊎ IsWrongEvent l left w

-- after steps that are taken comes an event that is wrong
pub record IsNextFault (part : PartOf) (p : Problem) (text : List ℕ) (fault : EventFault) : Type 0 where
  pub steps : List Event
  pub ledger : LedgerOf
  pub left : List ℕ
  pub leads : LeadsTo part p text steps ledger left
  pub number : fault.event ≡ number_after (length steps)
  pub next : IsWrongNext ledger left fault.wrong

-- after events that are right, of which the last is a claim, come further bytes
pub record IsTrailing (part : PartOf) (p : Problem) (text : List ℕ) (fault : EventFault) : Type 0 where
  pub events : List Event
  pub claim : Verdict
  pub left : List ℕ
  pub begins : Begins text events left
  pub right : IsRightIn part p events claim
  pub more : left ≢ []
  pub is : fault ≡ record { event = number_after (length events); wrong = wrong.Trailing }

-- ---- the log

abbrev pub IsFirstFault : PartOf → Problem → List ℕ → EventFault → Type 0
IsFirstFault part p text fault = IsTitleFault text fault ⊎ IsNextFault part p text fault ⊎ IsTrailing part p text fault

-- a text that has a first fault is not that of a right log
abbrev pub FaultIsWrong : Type 0
FaultIsWrong = (part : PartOf) (p : Problem) (text : List ℕ) (fault : EventFault) (c : Verdict) → IsFirstFault part p text fault → ¬ IsRightText p text c
