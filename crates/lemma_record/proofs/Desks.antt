-- What waits at a desk stays shown, and a book may take it.
use Rattle.std.proofs.Common.{Bool, true, false, ◌≡◌, refl, sym, subst, ℕ, ◌<◌, arith, List, [], ◌∷◌, ◌++◌, length, Option, None, Some, MatchOption, is_some}
use Rattle.std.proofs.Common.{not, Bor, IsTrue, inl, inr, ◌⊎◌}
use Rattle.std.proofs.lemmas.Bool.{false≢true}
use Rattle.std.proofs.lemmas.List.{append-nil}
use Rattle.network.specs.declared.parts.Lag.{Lag}
use Rattle.lemma_proof.specs.declared.line.Line.{Line}
use Rattle.lemma_proof.specs.Lines.{HaveUsed, IsIn, Slots}
use Rattle.lemma_proof.proofs.Staying.{have_used}
use Rattle.lemma_book.specs.Ledger.{HasRoom, IsFilled, IsFree, LedgerOf, MayTake}
use Rattle.lemma_book.specs.Premises.{AreAhead, Covers, Follows, PremisesOf, premises_in, with_roots}
use Rattle.lemma_book.proofs.Premised.{covered_refuted}
use Rattle.lemma_proof.proofs.Slotted.{shelved_there}
use Rattle.lemma_record.specs.declared.desk.Lemma.{Lemma}
use Rattle.lemma_record.specs.Desk.{DeskOf, IsDesk, IsShown, MayCopy, shelved}
use Rattle.lemma_record.proofs.Booked.{all_push}

-- a lemma of two arcs and more that has room has an empty slot
pub room_free : (lemmas : Slots) (slot : ℕ) (arcs : List Lag) → 1 < length arcs → HasRoom lemmas slot arcs → IsFree lemmas slot
room_free lemmas slot [] several room = absurd (omega (arith, several))
room_free lemmas slot (e ∷ []) several room = absurd (omega (arith, several))
room_free lemmas slot (e ∷ f ∷ arcs) several room = room

-- what is shown beside some premises is shown beside those that cover them
covered_shown : (x other : PremisesOf) (lemma : Lemma) → Covers x other lemma.lines → IsShown other lemma → IsShown x lemma
covered_shown x other lemma covers is = record { several = is.several; refuted = covered_refuted x other lemma.arcs lemma.lines covers is.refuted }

-- so it is for all that waits, where the root has more arcs, and the lemmas stay where they are
pub desk_stays : (x : PremisesOf) (more : List Lag) (lemmas : Slots) (proved : List Lemma)
    → ((slot : ℕ) (lemma : List Lag) → IsIn x.lemmas slot lemma → IsIn lemmas slot lemma) → IsDesk x proved
    → IsDesk (record { project = x.project; roots = x.roots ++ more; lemmas = lemmas }) proved
desk_stays x more lemmas [] have is = record {}
desk_stays x more lemmas (lemma ∷ proved) have is = (
  covered_shown (record { project = x.project; roots = x.roots ++ more; lemmas = lemmas }) x lemma
      (record {
        ahead = record { project = refl; roots = (more, refl) };
        lemmas =
            have_used lemmas x.lemmas have lemma.lines;
      }) is.0,
  desk_stays x more lemmas proved have is.1,
)

pub more_roots : (x : PremisesOf) (more : List Lag) (proved : List Lemma) → IsDesk x proved → IsDesk (with_roots x more) proved
more_roots x more proved is = desk_stays x more x.lemmas proved (λ slot lemma found. found) is

pub followed : (old other new : PremisesOf) (same : Bool) (proved : List Lemma) → Follows old other same new → IsDesk old proved → IsDesk new proved
followed old other new true proved follows is = rw follows.1 (more_roots old _ proved is)
followed old other new false proved follows is = rw follows.1 is

-- ---- a lemma more

pub shelved_stays : (x : PremisesOf) (slot : ℕ) (arcs : List Lag) (proved : List Lemma) → ¬ IsFilled x.lemmas slot
    → IsDesk x proved → IsDesk (shelved x slot arcs) proved
shelved_stays x slot arcs proved free is =
    let lemmas : Slots = (shelved x slot arcs).lemmas in
    let all : IsDesk (record { project = x.project; roots = x.roots ++ []; lemmas = lemmas }) proved =
    desk_stays x [] lemmas proved (λ k lemma found. shelved_there x.lemmas slot k arcs lemma free found) is in
    subst (λ (roots : List Lag). IsDesk (record { project = x.project; roots = roots; lemmas = lemmas }) proved) (append-nil x.roots) all

pub proved_more : (x : PremisesOf) (proved : List Lemma) (lemma : Lemma) → HasRoom x.lemmas lemma.slot lemma.arcs
    → IsShown x lemma → IsDesk x proved → IsDesk (shelved x lemma.slot lemma.arcs) (proved ++ lemma ∷ [])
proved_more x proved lemma room shown is =
    let free = room_free x.lemmas lemma.slot lemma.arcs shown.several room in
    shelved_stays x lemma.slot lemma.arcs (proved ++ lemma ∷ []) free.empty (all_push (IsShown x) proved lemma is shown)

pub copied : (d : DeskOf) (slot : ℕ) (arcs : List Lag) → MayCopy d slot arcs → IsDesk d.premises d.proved → IsDesk (shelved d.premises slot arcs) d.proved
copied d slot arcs may is = by_case may.unused
  where
    by_case : ((d.proved ≡ []) ⊎ (¬ IsFilled d.premises.lemmas slot)) → IsDesk (shelved d.premises slot arcs) d.proved
    by_case (inl none) = rw none (record {})
    by_case (inr free) = shelved_stays d.premises slot arcs d.proved free is

-- ---- a book may take it

pub covers_of : (l : LedgerOf) (x : PremisesOf) (lines : List Line) → AreAhead (premises_in l) x
    → HaveUsed l.lemmas x.lemmas lines → Covers (premises_in l) x lines
covers_of l x lines ahead used = record { ahead = ahead; lemmas = used }

pub may_take : (l : LedgerOf) (x : PremisesOf) (lemma : Lemma) → AreAhead (premises_in l) x
    → HaveUsed l.lemmas x.lemmas lemma.lines → HasRoom l.lemmas lemma.slot lemma.arcs → IsShown x lemma
    → MayTake l lemma.slot lemma.arcs lemma.lines
may_take l x lemma ahead used room shown =
    record {
      room = room;
      refuted = covered_refuted (premises_in l) x lemma.arcs lemma.lines
          (covers_of l x lemma.lines ahead used) shown.refuted;
    }

-- ---- a slot that is empty

pub none_tells : (lemmas : Slots) (slot : ℕ) (found : Option (Bor (List Lag))) (none : Bool) → is_some found ≡ not none
    → MatchOption found (¬ IsFilled lemmas slot) (λ arcs. IsIn lemmas slot arcs.now)
    → (IsTrue none → ¬ IsFilled lemmas slot) × (¬ IsFilled lemmas slot → IsTrue none)
none_tells lemmas slot None true is told = ((λ _. told), (λ _. refl))
none_tells lemmas slot None false is told = absurd (false≢true is)
none_tells lemmas slot (Some arcs) true is told = absurd (false≢true (sym is))
none_tells lemmas slot (Some arcs) false is told = ((λ yes. absurd (false≢true yes)), (λ free. absurd (free (arcs.now, told))))
