-- A ledger stays sound.
use Rattle.std.proofs.Common.{Bool, true, false, refl, ◌≡◌, sym, ap, subst, ℕ, ◌+◌, ◌-◌, ◌<◌, arith, ℤ, pos, ◌+ℤ◌, ◌≤ℤ◌, ◌<ℤ◌, ⊎_elim, slice_set, List, [], ◌∷◌}
use Rattle.std.proofs.Common.{◌++◌, append_assoc, Option, None, Some, MatchOption}
use Rattle.std.specs.List.{All}
use Rattle.std.proofs.lemmas.Int.{ints, by_lt_z}
use Rattle.std.proofs.lemmas.List.Elements.{All-append, All-head, All-nil, All-push}
use Rattle.network.specs.declared.parts.Lag.{Lag}
use Rattle.network.specs.Problem.{IsBetween, Problem, activity_count, end_of, rules}
use Rattle.network.specs.Schedule.{start, IsFeasible, Meets, makespan}
use Rattle.network.specs.Walk.{HasPositiveCycle, IsMatrixOf}
use Rattle.network.specs.Horizon.{horizon}
use Rattle.lemma_proof.specs.Bench.{BenchOf}
use Rattle.lemma_proof.specs.declared.line.Line.{Line}
use Rattle.lemma_proof.specs.Lines.{IsArc, IsIn, IsRefuted, MeetsNone, Slots, impossible}
use Rattle.lemma_book.specs.declared.deadline.TheConstants.{MAX_CEILING}
use Rattle.lemma_book.proofs.TooMuch.{too_much_out}
use Rattle.lemma_book.specs.Ledger.{IsDraft, IsRootMatrixOf, IsSound, Leads, LedgerOf, MayLead, MayTake, asks_too_much, ceiling_of, deadline, first_roots}
use Rattle.lemma_book.specs.Ledger.{own_of, root_of, with_lemma, with_schedule, with_slot, without_lemma}
use Rattle.lemma_book.specs.Premises.{PremisesOf, first_premises, ledger_of}
use Rattle.lemma_proof.proofs.Slotted.{in_emptied, in_shelved}
use Rattle.lemma_proof.proofs.Truth.{none_meets_refuted}
use Rattle.lemma_proof.proofs.Used.{light_reverse}
use Rattle.lemma_proof.specs.Reasons.{reverse_of}
use Rattle.lemma_proof.specs.Heads.{IsLight}

pub deadline_met : (p : Problem) (s : List ℤ) (bound : ℤ) → IsFeasible p s → makespan s <ℤ bound → Meets s (deadline p bound)
deadline_met p s bound feasible less =
    let last : start s (end_of p) ≡ makespan s = ap (λ n. start s (n - 1)) (sym feasible.schedule.whole) in
    omega (arith, ints)

-- ---- at first

first_met : (p : Problem) (s : List ℤ) → IsFeasible p s → makespan s <ℤ pos (horizon p + 1) → All (Meets s) (rules p ++ first_roots p)
first_met p s feasible less =
    if_asked (asks_too_much p) refl
  where
    if_asked : (asks : Bool) → asks_too_much p ≡ asks → All (Meets s) (rules p ++ first_roots p)
    if_asked true asks = absurd (too_much_out p s feasible asks)
    if_asked false asks = rw asks (All-push (Meets s) (rules p) (deadline p (pos (horizon p + 1)))
        feasible.schedule.rules_met (deadline_met p s (pos (horizon p + 1)) feasible less))

pub first_sound : (p : Problem) (roots : List Lag) (lemmas : Slots) → roots ≡ first_roots p → lemmas ≡ []
    → IsSound (record { project = p; best = None; roots = roots; lemmas = lemmas })
first_sound p roots lemmas roots_are lemmas_are = record {
  best = record {};
  roots = λ s feasible less. rw roots_are (first_met p s feasible less);
  lemmas = λ s feasible less. rw lemmas_are (none_in s);
}
  where
    none_in : (s : List ℤ) → MeetsNone s []
    none_in s slot lemma found = absurd cc

pub first_is : (p : Problem) (x : PremisesOf) → IsBetween (pos 0) MAX_CEILING (pos (horizon p + 1)) → x ≡ first_premises p → IsDraft (ledger_of x None)
first_is p x within is = rw is within

pub of_sum : (h : ℕ) → (pos h +ℤ pos 1) ≡ pos (h + 1)
of_sum h = omega (arith, ints)

abbrev pub rules_and : Problem → ℤ → List Lag
rules_and p bound = rules p ++ deadline p bound ∷ []

pub root_from : (p : Problem) (own : List Lag) (bench : Option BenchOf)
    → MatchOption bench (HasPositiveCycle own) (λ b. IsMatrixOf (activity_count p) own b.rows)
    → IsRootMatrixOf p own bench
root_from p own None found = found
root_from p own (Some b) found = found

pub first_root_is : (p : Problem) (bound : ℤ) (bench : Option BenchOf) → bound ≡ pos (horizon p + 1)
    → asks_too_much p ≡ false → IsRootMatrixOf p (rules_and p bound) bench
    → IsRootMatrixOf p (rules p ++ first_roots p) bench
first_root_is p bound bench is asks root = rw asks (subst (λ (b : ℤ). IsRootMatrixOf p (rules_and p b) bench) is root)

-- ---- an arc more in the root

abbrev pub with_root : LedgerOf → Lag → LedgerOf
with_root l arc = record l { roots = l.roots ++ arc ∷ [] }

pub own_more : (l : LedgerOf) (arc : Lag) → own_of l ++ arc ∷ [] ≡ own_of (with_root l arc)
own_more l arc = append_assoc (rules l.project) l.roots (arc ∷ [])

pub with_root_sound : (l : LedgerOf) (arc : Lag) → IsSound l
    → ((s : List ℤ) → IsFeasible l.project s → makespan s <ℤ ceiling_of l → Meets s arc) → IsSound (with_root l arc)
with_root_sound l arc sound met = record {
  best = sound.best;
  roots = λ s feasible less. subst (All (Meets s)) (own_more l arc) (All-push (Meets s) (own_of l) arc (sound.roots s feasible less) (met s feasible less));
  lemmas = sound.lemmas;
}

-- ---- refuted arcs

-- no feasible schedule in question meets all arcs that are refuted
pub refuted_out : (l : LedgerOf) (arcs : List Lag) (lines : List Line) → IsSound l
    → IsRefuted l.project l.lemmas (own_of l) arcs lines → (s : List ℤ) → IsFeasible l.project s
    → makespan s <ℤ ceiling_of l → ¬ All (Meets s) arcs
refuted_out l arcs lines sound refuted s feasible less met =
    none_meets_refuted l.project l.lemmas (own_of l ++ arcs) lines refuted.refuted s feasible
    (sound.lemmas s feasible less) (All-append (Meets s) (own_of l) arcs (sound.roots s feasible less) met)

-- so it meets the root's arc that the lemma makes
pub root_met : (l : LedgerOf) (arcs : List Lag) (lines : List Line) (arc : Lag) → IsSound l
    → IsRefuted l.project l.lemmas (own_of l) arcs lines → root_of arcs ≡ Some arc → (s : List ℤ)
    → IsFeasible l.project s → makespan s <ℤ ceiling_of l → Meets s arc
root_met l [] lines arc is refuted root s feasible less = absurd (refuted_out l [] lines is refuted s feasible less (All-nil (Meets s)))
root_met l (e ∷ []) lines arc is refuted root s feasible less =
    let same : reverse_of e ≡ arc = same_arc (reverse_of e) arc root in
    by_lt_z (start s e.to) (start s e.from +ℤ e.weight)
    (λ early. rw (sym same) (omega (arith, ints)))
    (λ kept. absurd (refuted_out l (e ∷ []) lines is refuted s feasible less (All-push (Meets s) [] e (All-nil (Meets s)) kept)))
  where
    same_arc : (x y : Lag) → Some x ≡ Some y → x ≡ y
    same_arc x y e = cc
root_met l (e ∷ f ∷ arcs) lines arc is refuted root s feasible less = absurd (let bad : None ≡ Some arc = root in cc)

pub light_root : (p : Problem) (arcs : List Lag) (arc : Lag) → 0 < activity_count p → All (IsArc p) arcs
    → root_of arcs ≡ Some arc → IsLight (activity_count p) arc
light_root p [] arc some are root = let same : impossible ≡ arc = same_arc impossible arc root
    in rw (sym same) (record {
      from_activity = some;
      to_activity = some;
      light =
          record { at_least = omega (arith, ints); at_most = omega (arith, ints) };
    })
  where
    same_arc : (x y : Lag) → Some x ≡ Some y → x ≡ y
    same_arc x y e = cc
light_root p (e ∷ []) arc some are root = let same : reverse_of e ≡ arc = same_arc (reverse_of e) arc root
    in rw (sym same) (light_reverse p e (All-head (IsArc p) e [] are))
  where
    same_arc : (x y : Lag) → Some x ≡ Some y → x ≡ y
    same_arc x y e = cc
light_root p (e ∷ f ∷ arcs) arc some are root = absurd (let bad : None ≡ Some arc = root in cc)

-- ---- a lemma more in a slot

abbrev pub shelved : LedgerOf → ℕ → List Lag → LedgerOf
shelved l slot arcs = record l { lemmas = slice_set (with_slot l.lemmas slot) slot (Some arcs) }

pub shelved_sound : (l : LedgerOf) (slot : ℕ) (arcs : List Lag) (lines : List Line) → IsSound l
    → IsRefuted l.project l.lemmas (own_of l) arcs lines → IsSound (shelved l slot arcs)
shelved_sound l slot arcs lines sound refuted = record {
  best = sound.best;
  roots = sound.roots;
  lemmas = λ s feasible less k lemma found.
      ⊎_elim
      (λ (new : arcs ≡ lemma). rw (sym new) (refuted_out l arcs lines sound refuted s feasible less))
      (λ (old : IsIn l.lemmas k lemma). sound.lemmas s feasible less k lemma old)
      (in_shelved l.lemmas slot k arcs lemma found);
}

-- a lemma goes
pub emptied_sound : (l : LedgerOf) (slot : ℕ) → IsSound l → IsSound (without_lemma l slot)
emptied_sound l slot sound = record {
  best = sound.best;
  roots = sound.roots;
  lemmas = λ s feasible less k lemma found. sound.lemmas s feasible less k lemma (in_emptied l.lemmas slot k lemma found);
}

-- ---- a shorter schedule

abbrev pub led : LedgerOf → List ℤ → LedgerOf
led l starts = record l { best = Some starts }

-- schedules in question are fewer
pub led_sound : (l : LedgerOf) (starts : List ℤ) → IsSound l → IsFeasible l.project starts → makespan starts <ℤ ceiling_of l → IsSound (led l starts)
led_sound l starts sound feasible shorter = record {
  best = feasible;
  roots = λ s f less. let below : makespan s <ℤ makespan starts = less in sound.roots s f (omega (arith, ints, below, shorter));
  lemmas = λ s f less. let below : makespan s <ℤ makespan starts = less in sound.lemmas s f (omega (arith, ints, below, shorter));
}

pub led_within : (l : LedgerOf) (starts : List ℤ) → IsDraft l → makespan starts <ℤ ceiling_of l → pos 0 ≤ℤ makespan starts → IsDraft (with_schedule l starts)
led_within l starts is shorter least = let high = is.at_most in record { at_least = least; at_most = omega (arith, ints, high, shorter) }

-- ---- what a ledger takes keeps it sound

pub lemma_sound : (l : LedgerOf) (slot : ℕ) (arcs : List Lag) (lines : List Line) → IsSound l → MayTake l slot arcs lines → IsSound (with_lemma l slot arcs)
lemma_sound l slot [] lines sound may = with_root_sound l impossible sound (root_met l [] lines impossible sound may.refuted refl)
lemma_sound l slot (e ∷ []) lines sound may = with_root_sound l (reverse_of e) sound (root_met l (e ∷ []) lines (reverse_of e) sound may.refuted refl)
lemma_sound l slot (e ∷ f ∷ arcs) lines sound may = shelved_sound l slot (e ∷ f ∷ arcs) lines sound may.refuted

pub schedule_sound : (l : LedgerOf) (starts : List ℤ) → IsSound l → MayLead l starts → IsSound (with_schedule l starts)
schedule_sound l starts sound may =
    with_root_sound (led l starts) (deadline l.project (makespan starts)) (led_sound l starts sound may.feasible may.shorter)
    (λ s feasible shorter. deadline_met l.project s (makespan starts) feasible shorter)

pub led_stays_sound : (l after : LedgerOf) (starts : List ℤ) (led : Bool) → IsSound l → Leads l starts led after → IsSound after
led_stays_sound l after starts true sound leads = rw leads.1 (schedule_sound l starts sound leads.0)
led_stays_sound l after starts false sound leads = rw leads.1 sound
