-- Passes over arcs by which weights rise.
use Rattle.std.proofs.Common.{◌≡◌, refl, sym, subst, ℕ, ◌+◌, ◌<◌, ◌≤◌, arith, inl, inr, ◌⊎◌, ⊎_elim, ℤ, Bool, true, false, List, [], ◌∷◌, length, take, get_or}
use Rattle.std.proofs.Common.{None, Some, Option, ◌≤ℤ◌, ◌+ℤ◌, pos}
use Rattle.std.specs.Bool.{MatchBool}
use Rattle.std.specs.List.{All, Contains}
use Rattle.std.proofs.lemmas.Int.{ints}
use Rattle.std.proofs.lemmas.List.{take_all}
use Rattle.std.proofs.lemmas.List.Elements.{All-more, All-contains, All-nil, Contains-append_right, Contains-push_cases, Contains-get_or, All-from_get_or}
use Rattle.network.specs.declared.parts.Lag.{Lag}
use Rattle.network.specs.Schedule.{start, Meets}
use Rattle.network.specs.Walk.{Rows}
use Rattle.lemma_proof.specs.Heads.{IsLight}
use Rattle.lemma_proof.specs.Rising.{AreAmong, AreThereAndBack, HaveRisen, IsLate, IsPassed, IsRisenBy, MeetsAllArcs, MeetEach}
use Rattle.lemma_proof.proofs.Rising.{risen_none, risen_more, risen_part}

-- the weights have risen by the arcs; while none raised any, they meet the arcs so far
pub record IsPassing (rows : Rows) (arcs : List Lag) (back first now : List ℤ) (raised : Bool) (i : ℕ) : Type 0 where
  pub risen : HaveRisen rows arcs back first now
  pub met : MatchBool raised (Unit {0}) (All (Meets now) (take i arcs))

pub among_one : (arcs : List Lag) (e : Lag) → Contains arcs e → AreAmong (e ∷ []) arcs
among_one arcs e there f c = elim (Contains-push_cases [] e f c) [
  | inl none ↦ absurd (omega (arith, none.1))
  | inr is ↦ subst (Contains arcs) is there
]

pub passing_first : (rows : Rows) (arcs : List Lag) (back s : List ℤ) → AreThereAndBack rows s back → IsPassing rows arcs back s s false 0
passing_first rows arcs back s both = record { risen = risen_none rows arcs back s both; met = All-nil (Meets s) }

pub passing_raised : (rows : Rows) (arcs : List Lag) (back first now new : List ℤ) (old raised : Bool) (i : ℕ) (e : Lag)
    → IsPassing rows arcs back first now old i → Contains arcs e → HaveRisen rows (e ∷ []) back now new → raised ≡ true
    → IsPassing rows arcs back first new raised (i + 1)
passing_raised rows arcs back first now new old raised i e h there risen is = record {
  risen = risen_more rows arcs back first now new h.risen (risen_part rows (e ∷ []) arcs back now new (among_one arcs e there) risen);
  met = rw is tt;
}

pub passing_met : (rows : Rows) (arcs : List Lag) (back first now new : List ℤ) (old raised : Bool) (i : ℕ) (d : Lag)
    → IsPassing rows arcs back first now old i → i < length arcs → new ≡ now → Meets new (get_or arcs i d)
    → raised ≡ old → IsPassing rows arcs back first new raised (i + 1)
passing_met rows arcs back first now new old raised i d h low same meets told =
    rw (same, told) (record { risen = h.risen; met = by_old old h.met })
  where
    here : Meets now (get_or arcs i d)
    here = rw same at meets

    by_old : (b : Bool) → MatchBool b (Unit {0}) (All (Meets now) (take i arcs)) → MatchBool b (Unit {0}) (All (Meets now) (take (i + 1) arcs))
    by_old true m = tt
    by_old false m = All-more (Meets now) arcs i d low m here

pub passing_all : (rows : Rows) (arcs : List Lag) (back first now : List ℤ) (i : ℕ)
    → IsPassing rows arcs back first now false i → length arcs ≤ i → MeetEach arcs now
passing_all rows arcs back first now i h past =
    let all : All (Meets now) arcs = rw (take_all i arcs past) at h.met in
    λ e c. All-contains (Meets now) arcs e all c

pub passing_told : (rows : Rows) (arcs : List Lag) (back first now : List ℤ) (raised : Bool) (i : ℕ)
    → IsPassing rows arcs back first now raised i → length arcs ≤ i → IsPassed arcs back now (Some raised)
passing_told rows arcs back first now true i h past = tt
passing_told rows arcs back first now false i h past = passing_all rows arcs back first now i h past

pub late_part : (arcs others : List Lag) (there back : List ℤ) → AreAmong arcs others → IsLate arcs there back → IsLate others there back
late_part arcs others there back part late = record { arc = late.arc; among = part late.arc late.among; above = late.above }

pub among_rest : (e : Lag) (arcs : List Lag) → AreAmong arcs (e ∷ arcs)
among_rest e arcs f c = Contains-append_right (e ∷ []) arcs f c

pub among_first : (e : Lag) (arcs : List Lag) → AreAmong (e ∷ []) (e ∷ arcs)
among_first e arcs = among_one (e ∷ arcs) e (0, omega arith, refl)

-- arcs that were met but one, which is met now
pub still_met : (arcs : List Lag) (old new : List ℤ) (e : Lag) → new ≡ old → Meets new e
    → ((f : Lag) → Contains arcs f → Meets old f ⊎ (e ≡ f)) → MeetEach arcs new
still_met arcs old new e same here before f c = ⊎_elim
    (λ (met : Meets old f). subst (λ (s : List ℤ). Meets s f) (sym same) met)
    (λ (is : e ≡ f). subst (Meets new) is here)
    (before f c)

-- a rise by one arc and then by the others
pub rise_risen : (rows : Rows) (e : Lag) (arcs : List Lag) (back old now new : List ℤ)
    → HaveRisen rows (e ∷ []) back old now → HaveRisen rows arcs back now new → HaveRisen rows (e ∷ arcs) back old new
rise_risen rows e arcs back old now new first next =
    risen_more rows (e ∷ arcs) back old now new
    (risen_part rows (e ∷ []) (e ∷ arcs) back old now (among_first e arcs) first)
    (risen_part rows arcs (e ∷ arcs) back now new (among_rest e arcs) next)

pub rise_told : (rows : Rows) (e : Lag) (arcs : List Lag) (back old now new : List ℤ) (told : Option Bool)
    → e.to < length rows → (start old e.from +ℤ e.weight) ≤ℤ start now e.to → HaveRisen rows arcs back now new
    → MeetsAllArcs arcs back new told → IsRisenBy e arcs back old new told
rise_told rows e arcs back old now new None lt over risen late = late_part arcs (e ∷ arcs) new back (among_rest e arcs) late
rise_told rows e arcs back old now new (Some true) lt over risen met = let up = risen.grown e.to lt in (omega (arith, ints, up, over), λ before. met)
rise_told rows e arcs back old now new (Some false) lt over risen met = let up = risen.grown e.to lt in (omega (arith, ints, up, over), tt)

pub rise_late : (e : Lag) (arcs : List Lag) (there back : List ℤ) → IsLate (e ∷ []) there back → IsLate (e ∷ arcs) there back
rise_late e arcs there back late = late_part (e ∷ []) (e ∷ arcs) there back (among_first e arcs) late

-- the arcs of a list, one after another
pub each_light : (n : ℕ) (arcs : List Lag) → ((e : Lag) → Contains arcs e → IsLight n e) → All (IsLight n) arcs
each_light n arcs light =
    let d : Lag = record { from = 0; to = 0; weight = pos 0 } in
    All-from_get_or (IsLight n) arcs d (λ i lt. light (get_or arcs i d) (Contains-get_or arcs i d lt))
