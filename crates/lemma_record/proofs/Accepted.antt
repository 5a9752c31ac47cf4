-- A book accepts one lemma after another.
use Rattle.std.proofs.Common.{Bool, true, false, ◌≡◌, refl, subst, ◌<◌, arith, ◌↔◌, IsTrue, List, [], ◌∷◌, ◌++◌, length, ℕ, inl}
use Rattle.std.specs.List.{AllByRecursion}
use Rattle.network.specs.declared.parts.Lag.{Lag}
use Rattle.lemma_book.specs.Ledger.{LedgerOf, with_lemma}
use Rattle.lemma_book.specs.Premises.{AreAhead, PremisesOf, premises_in}
use Rattle.lemma_record.specs.declared.desk.Lemma.{Lemma}
use Rattle.lemma_record.specs.LemmaBook.{BookOf, IsCutShort}
use Rattle.lemma_record.specs.Desk.{Accepts, AcceptsEach, AcceptsSome, IsCutShortAt, event_of}

pub accepts_more : (x : PremisesOf) (old between new : BookOf) (lemmas : List Lemma) (taken : List Bool) (lemma : Lemma)
    (is : Bool) → AcceptsEach x old lemmas taken between → Accepts between x lemma is new
    → AcceptsEach x old (lemmas ++ lemma ∷ []) (taken ++ is ∷ []) new
accepts_more x old between new [] [] lemma is each one = (new, subst (λ (b : BookOf). Accepts b x lemma is new) each one, refl)
accepts_more x old between new (l ∷ lemmas) (t ∷ taken) lemma is each one = (each.0, each.1, accepts_more x each.0 between new lemmas taken lemma is each.2 one)
accepts_more x old between new [] (t ∷ taken) lemma is each one = absurd each
accepts_more x old between new (l ∷ lemmas) [] lemma is each one = absurd each

pub none_accepted : (x : PremisesOf) (old : BookOf) (lemmas : List Lemma) → AcceptsSome x old lemmas old
none_accepted x old lemmas = record {
  first = [];
  rest = lemmas;
  are = refl;
  taken = [];
  next = old;
  accepted = refl;
  cut_short = none_short lemmas;
}
  where
    none_short : (lemmas : List Lemma) → IsCutShortAt old lemmas old
    none_short [] = refl
    none_short (lemma ∷ rest) = inl refl

pub some_accepted : (x : PremisesOf) (old next new : BookOf) (lemmas first rest : List Lemma) (lemma : Lemma)
    (taken : List Bool) → lemmas ≡ first ++ lemma ∷ rest → AcceptsEach x old first taken next
    → IsCutShort next (event_of lemma) new → AcceptsSome x old lemmas new
some_accepted x old next new lemmas first rest lemma taken are each short = record {
  first = first;
  rest = lemma ∷ rest;
  are = are;
  taken = taken;
  next = next;
  accepted = each;
  cut_short = short;
}

-- ---- the root stays

-- a lemma of two arcs and more changes no arc of the root
with_several : (l : LedgerOf) (x : PremisesOf) (slot : ℕ) (arcs : List Lag) → 1 < length arcs
    → AreAhead (premises_in l) x → AreAhead (premises_in (with_lemma l slot arcs)) x
with_several l x slot [] several ahead = absurd (omega (arith, several))
with_several l x slot (e ∷ []) several ahead = absurd (omega (arith, several))
with_several l x slot (e ∷ f ∷ arcs) several ahead = record { project = ahead.project; roots = ahead.roots }

with_several_only : (l : LedgerOf) (x : PremisesOf) (slot : ℕ) (arcs : List Lag) → 1 < length arcs
    → AreAhead (premises_in (with_lemma l slot arcs)) x → AreAhead (premises_in l) x
with_several_only l x slot [] several ahead = absurd (omega (arith, several))
with_several_only l x slot (e ∷ []) several ahead = absurd (omega (arith, several))
with_several_only l x slot (e ∷ f ∷ arcs) several ahead = record { project = ahead.project; roots = ahead.roots }

ahead_stays : (old new : BookOf) (x : PremisesOf) (lemma : Lemma) (is : Bool) → 1 < length lemma.arcs
    → Accepts old x lemma is new → AreAhead (premises_in old.ledger) x → AreAhead (premises_in new.ledger) x
ahead_stays old new x lemma true several accepts ahead = rw accepts.1.1 (with_several old.ledger x lemma.slot lemma.arcs several ahead)
ahead_stays old new x lemma false several accepts ahead = rw accepts.1 ahead

was_ahead : (old new : BookOf) (x : PremisesOf) (lemma : Lemma) (is : Bool) → 1 < length lemma.arcs
    → Accepts old x lemma is new → AreAhead (premises_in new.ledger) x → AreAhead (premises_in old.ledger) x
was_ahead old new x lemma true several accepts ahead =
    with_several_only old.ledger x lemma.slot lemma.arcs several (rw accepts.1.1 at ahead)
was_ahead old new x lemma false several accepts ahead = rw accepts.1 at ahead

pub still_ahead : (old new : BookOf) (x : PremisesOf) (lemma : Lemma) (is ahead : Bool) → 1 < length lemma.arcs
    → Accepts old x lemma is new → IsTrue ahead ↔ AreAhead (premises_in old.ledger) x
    → IsTrue ahead ↔ AreAhead (premises_in new.ledger) x
still_ahead old new x lemma is ahead several accepts same =
    ((λ yes. ahead_stays old new x lemma is several accepts (same.0 yes)), (λ stays. same.1 (was_ahead old new x lemma is several accepts stays)))

-- ---- one of several

pub one_of : {X : Type 0} (P : X → Type 0) (before : List X) (x : X) (after : List X) → AllByRecursion P (before ++ x ∷ after) → P x
one_of P [] x after all = all.0
one_of P (y ∷ before) x after all = one_of P before x after all.1
