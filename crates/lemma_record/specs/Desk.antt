-- What a job proves at a desk, beside premises of its own, and what a book accepts of it.
use Rattle.std.specs.Prelude.{Bool, true, false, ◌≡◌, ◌⊎◌, ◌<◌, ◌++◌, ◌∷◌, [], ℕ, List, length, slice_set, Some, IsSome}
use Rattle.std.specs.List.{All, AllByRecursion}
use Rattle.network.specs.declared.parts.Lag.{Lag}
use Rattle.network.specs.Problem.{Problem}
use Rattle.lemma_proof.specs.declared.line.Line.{Line}
use Rattle.lemma_proof.specs.Lines.{IsArc, IsRefuted, picked}
use Rattle.lemma_log.specs.declared.event.Event.{Event}
use Rattle.lemma_log.specs.declared.event.Event.TheVariants as event
use Rattle.lemma_log.specs.Text.{IsWritableBody}
use Rattle.lemma_book.specs.declared.ledger.TheConstants.{MAX_SLOTS}
use Rattle.lemma_book.specs.Ledger.{HasRoom, IsFilled, LedgerOf, with_slot}
use Rattle.lemma_book.specs.Premises.{Covers, Empties, Follows, PremisesOf, first_premises, premises_in, root_arcs}
use Rattle.lemma_record.specs.declared.desk.Lemma.{Lemma}
use Rattle.lemma_record.specs.LemmaBook.{BookOf, IsCutShort}
use Rattle.lemma_record.specs.Right.{Takes}

-- ---- A desk.

-- what lines are checked against, and the lemmas that wait for a book, the oldest first
pub record DeskOf : Type 0 where
  pub premises : PremisesOf
  pub proved : List Lemma

abbrev pub lemma_of : ℕ → List Lag → List Line → Lemma
lemma_of slot arcs lines = record { slot = slot; arcs = arcs; lines = lines }

-- it has two arcs or more, which its lines refute beside the premises
pub record IsShown (x : PremisesOf) (lemma : Lemma) : Type 0 where
  pub several : 1 < length lemma.arcs
  pub refuted : IsRefuted x.project x.lemmas (root_arcs x) lemma.arcs lemma.lines

-- each lemma that waits is shown by its lines
abbrev pub IsDesk : PremisesOf → List Lemma → Type 0
IsDesk x proved = AllByRecursion (IsShown x) proved

-- a desk at which nothing was proved
abbrev pub first_desk : Problem → DeskOf
first_desk p = record { premises = first_premises p; proved = [] }

-- ---- What changes a desk.

-- the lemma of a slot is this one
abbrev pub shelved : PremisesOf → ℕ → List Lag → PremisesOf
shelved x slot arcs = record x { lemmas = slice_set (with_slot x.lemmas slot) slot (Some arcs) }

-- its slot is empty, and its lines show it
pub record MayProve (x : PremisesOf) (lemma : Lemma) : Type 0 where
  pub room : HasRoom x.lemmas lemma.slot lemma.arcs
  pub shown : IsShown x lemma

-- a lemma that may be proved fills its slot, and waits with some of its lines; or nothing changes
abbrev pub Proves : DeskOf → Lemma → Bool → DeskOf → Type 0
Proves old lemma true new =
    MayProve old.premises lemma
    × ((places : List ℕ) × (new ≡ record {
      premises = shelved old.premises lemma.slot lemma.arcs;
      proved =
          old.proved ++ record lemma { lines = picked lemma.lines places } ∷ [];
    }))
Proves old lemma false new = (¬ MayProve old.premises lemma) × (new ≡ old)

-- the slot is one of the limit, and no lemma that waits may use what is in it
pub record MayCopy (d : DeskOf) (slot : ℕ) (arcs : List Lag) : Type 0 where
  pub within : slot < MAX_SLOTS
  pub unused : (d.proved ≡ []) ⊎ (¬ IsFilled d.premises.lemmas slot)
  pub are_arcs : All (IsArc d.premises.project) arcs

-- a lemma of others fills a slot; or nothing changes
abbrev pub Copies : DeskOf → ℕ → List Lag → Bool → DeskOf → Type 0
Copies old slot arcs true new = MayCopy old slot arcs × (new ≡ record old { premises = shelved old.premises slot arcs })
Copies old slot arcs false new = (¬ MayCopy old slot arcs) × (new ≡ old)

-- the lemma of a slot goes, if there is one and no lemma waits
abbrev pub LetsGoOf : DeskOf → ℕ → Bool → DeskOf → Type 0
LetsGoOf old slot true new = (old.proved ≡ []) × Empties old.premises slot true new.premises × (new.proved ≡ [])
LetsGoOf old slot false new = (¬ ((old.proved ≡ []) × IsFilled old.premises.lemmas slot)) × (new ≡ old)

-- the root gets the arcs of a ledger's that are beyond its count
abbrev pub FollowsLedger : DeskOf → LedgerOf → Bool → DeskOf → Type 0
FollowsLedger old l same new = Follows old.premises (premises_in l) same new.premises × (new.proved ≡ old.proved)

-- no lemma waits
abbrev pub emptied : DeskOf → DeskOf
emptied d = record d { proved = [] }

-- ---- What a book accepts.

-- the lemma as an event
abbrev pub event_of : Lemma → Event
event_of lemma = event.Lemma lemma.slot lemma.arcs lemma.lines

-- the ledger has all that the lines rest on beside the premises, and an empty slot; and the numbers are within the limits
-- of a log
pub record MayAccept (l : LedgerOf) (x : PremisesOf) (lemma : Lemma) : Type 0 where
  pub covers : Covers (premises_in l) x lemma.lines
  pub room : HasRoom l.lemmas lemma.slot lemma.arcs
  pub writable : IsWritableBody (event_of lemma)

-- a lemma that may be accepted is taken and logged; or it may not be, and nothing changes
abbrev pub Accepts : BookOf → PremisesOf → Lemma → Bool → BookOf → Type 0
Accepts old x lemma true new = MayAccept old.ledger x lemma × Takes old.ledger (event_of lemma) new.ledger × IsSome new.log
Accepts old x lemma false new = (¬ MayAccept old.ledger x lemma) × (new ≡ old)

-- each lemma, one after another, is accepted or not
abbrev pub AcceptsEach : PremisesOf → BookOf → List Lemma → List Bool → BookOf → Type 0
AcceptsEach x old [] [] new = new ≡ old
AcceptsEach x old (lemma ∷ lemmas) (is ∷ taken) new =
    (next : BookOf) × Accepts old x lemma is next × AcceptsEach x next lemmas taken new
AcceptsEach x old [] (is ∷ taken) new = ⊥
AcceptsEach x old (lemma ∷ lemmas) [] new = ⊥

-- memory ran out for the first of these, if there is one
abbrev pub IsCutShortAt : BookOf → List Lemma → BookOf → Type 0
IsCutShortAt old [] new = new ≡ old
IsCutShortAt old (lemma ∷ lemmas) new = IsCutShort old (event_of lemma) new

-- the first lemmas were accepted or not, and then memory ran out
pub record AcceptsSome (x : PremisesOf) (old : BookOf) (lemmas : List Lemma) (new : BookOf) : Type 0 where
  pub first : List Lemma
  pub rest : List Lemma
  pub are : lemmas ≡ first ++ rest
  pub taken : List Bool
  pub next : BookOf
  pub accepted : AcceptsEach x old first taken next
  pub cut_short : IsCutShortAt next rest new
