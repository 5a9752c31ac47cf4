-- What becomes of an event that a ledger is given.
use Rattle.std.specs.Prelude.{Bool, true, false, ◌≡◌, ◌⊎◌, ℕ, List}
use Rattle.lemma_proof.specs.Lines.{picked}
use Rattle.lemma_log.specs.declared.event.Event.{Event}
use Rattle.lemma_log.specs.declared.event.Event.TheVariants as event
use Rattle.lemma_log.specs.Text.{IsWritableBody}
use Rattle.lemma_book.specs.Ledger.{LedgerOf}
use Rattle.lemma_record.specs.Right.{Takes}
use Rattle.lemma_record.specs.Parts.{TakesIf}

-- what is logged of an event: of a lemma all of its lines, or some if a log has room for these, of another all
abbrev pub IsLoggedOf : Event → Event → Type 0
IsLoggedOf (event.Lemma slot arcs lines) logged =
    (logged ≡ event.Lemma slot arcs lines)
    ⊎ (((places : List ℕ) × (logged ≡ event.Lemma slot arcs (picked lines places))) × IsWritableBody logged)
IsLoggedOf (event.Drop slot) logged = logged ≡ event.Drop slot
IsLoggedOf (event.Schedule starts) logged = logged ≡ event.Schedule starts
IsLoggedOf (event.Claim c) logged = logged ≡ event.Claim c

-- the event is taken, and so is what is logged of it
pub record IsTaken (old : LedgerOf) (e logged : Event) (new : LedgerOf) : Type 0 where
  pub taken : Takes old e new
  pub logged_taken : Takes old logged new
  pub part : IsLoggedOf e logged

-- the ledger takes the event to no other, and nothing changes
pub record IsRefused (old : LedgerOf) (e : Event) (new : LedgerOf) : Type 0 where
  pub never : (after : LedgerOf) → ¬ Takes old e after
  pub same : new ≡ old

-- ---- Where the lines of a lemma are looked at, or not.

-- an event is taken, or the draft takes it to no other, and nothing changes
abbrev pub Judges : Bool → LedgerOf → Event → Bool → LedgerOf → Type 0
Judges looks old e true new = TakesIf looks old e new
Judges looks old e false new = IsRefused old e new
