-- The heads and tails of a matrix with one arc more, and its bound.
use Rattle.std.proofs.Common.{◌≡◌, refl, sym, ap, ◌∙◌, subst, ℕ, ◌-◌, ◌<◌, ◌≤◌, arith, ℤ, pos, ◌+ℤ◌, ◌-ℤ◌, ◌≤ℤ◌, List, [], ◌∷◌, ◌++◌, length, get_or, Option}
use Rattle.std.proofs.Common.{None, Some, ⊎_elim, ◌<ℤ◌, IfSome, unsigned_abs}
use Rattle.std.specs.Option.{unwrap_or}
use Rattle.std.specs.Int.{int_max}
use Rattle.std.proofs.lemmas.Int.{ints, int_max_is}
use Rattle.std.proofs.lemmas.List.Elements.{All-head, All-push}
use Rattle.std.proofs.lemmas.List.FromFn.{get_or-map-range_with_len}
use Rattle.network.specs.declared.parts.Lag.{Lag}
use Rattle.network.specs.declared.parts.Pair.{Pair}
use Rattle.network.specs.Problem.{Problem, activity_count, end_of, duration, pair_arc, arcs_of, NameActivities}
use Rattle.network.specs.Walk.{IsProjectMatrix, Rows, entry, IsMatrixOf, weights_from}
use Rattle.network.proofs.Schedules.{arcs_of-push}
use Rattle.longest_path.specs.Matrix.{joined}
use Rattle.longest_path.specs.Insert.{entry_over, rows_over, ClosesNone, AddsArc}
use Rattle.longest_path.proofs.Bound.{one_matrix}
use Rattle.longest_path.proofs.Inserted.{length-rows_over, entry-rows_over, AddsArc-rows_over}
use Rattle.longest_path.specs.Ends.{tail_weight, tail_weights}
use Rattle.longest_path.proofs.Ends.{AreEarliest-weights, AreTails-weights}
use Rattle.bounds.specs.Energy.{IsEnergyValue, AreEnds, IsWithinTerm, IsEnergyTerm, IsEnergyUnder}
use Rattle.bounds.specs.Bound.{critical_weight, IsEnergyOf, IsBoundOf, IsBoundBetween, IsBoundWith, IsTrueBoundWith, IsBoundUnder}
use Rattle.bounds.proofs.Ranked.{made_by}
use Rattle.bounds.proofs.TrueBounds.{IsBoundOf-max, IsTrueBoundFor-bound, critical_from_zero}
use Rattle.network.specs.Schedule.{start, makespan}
use Rattle.bounds.specs.declared.limits.TheConstants.{MAX_ENVELOPE}
use Rattle.bounds.proofs.Energies.{IsBoundOf-exists}

pub heads_over : (e : Lag) (rows : Rows) (heads : List ℤ) → length heads ≡ length rows
    → ((k : ℕ) → k < length rows → get_or heads k (pos 0) ≡ unwrap_or (entry_over e rows 0 k) (pos 0))
    → heads ≡ weights_from 0 (rows_over e rows)
heads_over e rows heads long each =
    made_by (pos 0) (λ b. unwrap_or (entry (rows_over e rows) 0 b) (pos 0)) (length (rows_over e rows)) heads (long ∙ sym (length-rows_over e rows)) (λ k lt.
    let short : k < length rows = rw (length-rows_over e rows) at lt in
    each k short ∙ ap (λ (o : Option ℤ). unwrap_or o (pos 0)) (sym (entry-rows_over e rows 0 k (omega arith) short)))

pub tails_over : (p : Problem) (e : Lag) (rows : Rows) (tails : List ℤ) → length rows ≡ activity_count p
    → length tails ≡ length rows → ((k : ℕ) → k < length rows
    → get_or tails k (pos 0) ≡ unwrap_or (entry_over e rows k (end_of p)) (pos 0) -ℤ duration p k)
    → tails ≡ tail_weights p (rows_over e rows)
tails_over p e rows tails size long each =
    made_by (pos 0) (tail_weight p (rows_over e rows)) (activity_count p) tails (long ∙ size) (λ k lt.
    let short : k < length rows = rw size lt in
    let last : end_of p < length rows = omega arith in
    each k short ∙ ap (λ (o : Option ℤ). unwrap_or o (pos 0) -ℤ duration p k) (sym (entry-rows_over e rows k (end_of p) short last)))

-- the arc may be joined to either part
pub joined_late : (x y : Option ℤ) (w : ℤ) → joined x (joined y (Some w)) ≡ joined (joined x (Some w)) y
joined_late None y w = refl
joined_late (Some x) None w = refl
joined_late (Some x) (Some y) w = let same : (x +ℤ (y +ℤ w)) ≡ ((x +ℤ w) +ℤ y) = omega (arith, ints) in ap Some same

-- ---- the bound with a pair

abbrev pub IsThere : Problem → Pair → Type 0
IsThere p q = (q.before < activity_count p) × (q.after < activity_count p)

pub ends_there : (p : Problem) (pair : Pair) → NameActivities p (pair ∷ []) → IsThere p pair
ends_there p pair named = All-head (IsThere p) pair [] named

pub adds_pair : (p : Problem) (pair : Pair) (rows : Rows) → length rows ≡ activity_count p
    → NameActivities p (pair ∷ []) → ClosesNone (pair_arc p pair) rows
    → AddsArc (pair_arc p pair) rows (rows_over (pair_arc p pair) rows)
adds_pair p pair rows size named none =
    let ends = ends_there p pair named in
    AddsArc-rows_over (pair_arc p pair) rows (rw size ends.0) (rw size ends.1) none

pub matrix_more : (p : Problem) (pairs : List Pair) (pair : Pair) (rows : Rows) → NameActivities p (pair ∷ [])
    → ClosesNone (pair_arc p pair) rows → IsProjectMatrix p pairs rows →
    IsProjectMatrix p (pairs ++ pair ∷ []) (rows_over (pair_arc p pair) rows)
matrix_more p pairs pair rows named none m =
    let size : length rows ≡ activity_count p = m.matrix.square.0 in
    let more = adds_pair p pair rows size named none (arcs_of p pairs) (rw size m.matrix) in
    record {
      limits = m.limits;
      named = All-push (IsThere p) pairs pair m.named (ends_there p pair named);
      matrix = rw (arcs_of-push p pairs pair)
          (subst (λ (n : ℕ). IsMatrixOf n (arcs_of p pairs ++ pair_arc p pair ∷ []) (rows_over (pair_arc p pair) rows))
          size more);
    }

pub IsBoundWith-over : (p : Problem) (pair : Pair) (rows : Rows) (bound : ℤ) → NameActivities p (pair ∷ [])
    → ClosesNone (pair_arc p pair) rows → IsBoundOf p (rows_over (pair_arc p pair) rows) bound
    → IsBoundWith p rows pair bound
IsBoundWith-over p pair rows bound named none is = λ pairs new m k.
    let same : rows_over (pair_arc p pair) rows ≡ new =
    one_matrix (activity_count p) (arcs_of p (pairs ++ pair ∷ [])) (rows_over (pair_arc p pair) rows) new
    (matrix_more p pairs pair rows named none m).matrix k.matrix in
    subst (λ (r : Rows). IsBoundOf p r bound) same is

pub IsTrueBoundWith-over : (p : Problem) (pair : Pair) (rows : Rows) (bound : ℤ) → NameActivities p (pair ∷ [])
    → ClosesNone (pair_arc p pair) rows → IsBoundOf p (rows_over (pair_arc p pair) rows) bound
    → IsTrueBoundWith p rows pair bound
IsTrueBoundWith-over p pair rows bound named none is = λ pairs m.
    IsTrueBoundFor-bound p (rows_over (pair_arc p pair) rows) bound is (pairs ++ pair ∷ []) (matrix_more p pairs pair rows named none m)

pub heads_are_ends : (p : Problem) (pairs : List Pair) (rows : Rows) → IsProjectMatrix p pairs rows → AreEnds (activity_count p) (weights_from 0 rows)
heads_are_ends p pairs rows m = let are = AreEarliest-weights p pairs rows m in record { count = are.limits.count; within = are.range }

pub tails_are_ends : (p : Problem) (pairs : List Pair) (rows : Rows) → IsProjectMatrix p pairs rows → AreEnds (activity_count p) (tail_weights p rows)
tails_are_ends p pairs rows m = let are = AreTails-weights p pairs rows m in record { count = are.count; within = are.range }

-- the last head is the critical weight
pub last_head : (rows : Rows) → 0 < length rows → get_or (weights_from 0 rows) (length rows - 1) (pos 0) ≡ critical_weight rows
last_head rows some = get_or-map-range_with_len (λ b. unwrap_or (entry rows 0 b) (pos 0)) 0 (length rows)
    (length rows - 1) (length rows - 1) (pos 0) (omega arith) (omega arith)

IsBoundOf-between : (p : Problem) (pairs : List Pair) (rows : Rows) (heads tails : List ℤ) (bound : ℤ)
    → IsProjectMatrix p pairs rows → heads ≡ weights_from 0 rows → tails ≡ tail_weights p rows
    → IsBoundBetween p heads tails bound → IsBoundOf p rows bound
IsBoundOf-between p pairs rows heads tails bound m heads_are tails_are is =
    let two : 2 ≤ activity_count p = m.limits.two_dummies in
    let size : length rows ≡ activity_count p = m.matrix.square.0 in
    let last : get_or heads (end_of p) (pos 0) ≡ critical_weight rows =
    ap (λ (hs : List ℤ). get_or hs (end_of p) (pos 0)) heads_are
    ∙ ap (λ n. get_or (weights_from 0 rows) (n - 1) (pos 0)) (sym size) ∙ last_head rows (omega arith) in
    let of_energy : IsEnergyOf p rows is.energy =
    subst (λ (ts : List ℤ). IsEnergyValue p (weights_from 0 rows) ts is.energy) tails_are
    (subst (λ (hs : List ℤ). IsEnergyValue p hs tails is.energy) heads_are is.of_energy) in
    let same : bound ≡ int_max (critical_weight rows) is.energy = is.is ∙ ap (λ (c : ℤ). int_max c is.energy) last in
    subst (IsBoundOf p rows) (sym same) (IsBoundOf-max p pairs rows is.energy m of_energy)

-- the bound of heads and tails that the matrix gives with the pair
pub IsBoundOf-over : (p : Problem) (pairs : List Pair) (pair : Pair) (rows : Rows) (heads tails : List ℤ) (bound : ℤ)
    → IsProjectMatrix p pairs rows → NameActivities p (pair ∷ []) → ClosesNone (pair_arc p pair) rows →
    heads ≡ weights_from 0 (rows_over (pair_arc p pair) rows)
    → tails ≡ tail_weights p (rows_over (pair_arc p pair) rows) → IsBoundBetween p heads tails bound
    → IsBoundOf p (rows_over (pair_arc p pair) rows) bound
IsBoundOf-over p pairs pair rows heads tails bound m named none heads_are tails_are is =
    IsBoundOf-between p (pairs ++ pair ∷ []) (rows_over (pair_arc p pair) rows) heads tails bound
    (matrix_more p pairs pair rows named none m) heads_are tails_are is

-- ---- Bounds of a matrix with one pair more that stop at a ceiling.

-- there is a bound with the pair
pub IsBoundWith-exists : (p : Problem) (pair : Pair) (rows : Rows) → NameActivities p (pair ∷ [])
    → ClosesNone (pair_arc p pair) rows → (bound : ℤ) × IsBoundWith p rows pair bound
IsBoundWith-exists p pair rows named none =
    let has = IsBoundOf-exists p (rows_over (pair_arc p pair) rows) in
    (has.0, IsBoundWith-over p pair rows has.0 named none has.1)

-- what is not above it is a true bound
pub IsTrueBoundWith-low : (p : Problem) (pair : Pair) (rows : Rows) (c : ℤ) → NameActivities p (pair ∷ [])
    → ClosesNone (pair_arc p pair) rows → ((bound : ℤ) → IsBoundWith p rows pair bound → c ≤ℤ bound)
    → IsTrueBoundWith p rows pair c
IsTrueBoundWith-low p pair rows c named none low = λ pairs m s stands.
    let has = IsBoundOf-exists p (rows_over (pair_arc p pair) rows) in
    let below : c ≤ℤ has.0 = low has.0 (IsBoundWith-over p pair rows has.0 named none has.1) in
    let above : has.0 ≤ℤ makespan s = IsTrueBoundWith-over p pair rows has.0 named none has.1 pairs m s stands in
    omega (arith, ints)

abbrev MOST : ℤ
MOST = pos 9223372036854775807

-- an energy below the ceiling
energy_less : (ceiling : Option ℤ) (n : ℕ) (c : ℤ) → n ≤ MAX_ENVELOPE → pos n ≤ℤ c
    → IfSome ceiling (λ limit. c <ℤ limit) → n < unsigned_abs (unwrap_or ceiling MOST)
energy_less None n c small high under = omega (arith, ints)
energy_less (Some limit) n c small high under = let less : c <ℤ limit = under in omega (arith, ints)

-- the greater of the critical weight and the energy under the ceiling
pub greater_under : (p : Problem) (pairs : List Pair) (pair : Pair) (rows : Rows) (heads tails : List ℤ)
    (ceiling : Option ℤ) (n : ℕ) → IsProjectMatrix p pairs rows → NameActivities p (pair ∷ [])
    → ClosesNone (pair_arc p pair) rows →
    heads ≡ weights_from 0 (rows_over (pair_arc p pair) rows)
    → tails ≡ tail_weights p (rows_over (pair_arc p pair) rows)
    → start heads (end_of p) ≡ critical_weight (rows_over (pair_arc p pair) rows) →
    IsEnergyUnder p heads tails (unsigned_abs (unwrap_or ceiling MOST)) n → n ≤ MAX_ENVELOPE
    → IsBoundUnder p rows pair ceiling (int_max (start heads (end_of p)) (pos n))
greater_under p pairs pair rows heads tails ceiling n m named none heads_are tails_are last energy small = record {
  low = λ bound of. low bound (of pairs over m more);
  exact = λ under.
      let less : n < unsigned_abs (unwrap_or ceiling MOST) =
      energy_less ceiling n (int_max (start heads (end_of p)) (pos n)) small
      (omega (arith, ints, int_max_is (start heads (end_of p)) (pos n))) under in
      IsBoundWith-over p pair rows (int_max (start heads (end_of p)) (pos n)) named none
      (IsBoundOf-over p pairs pair rows heads tails (int_max (start heads (end_of p)) (pos n)) m named none heads_are
      tails_are (record { energy = pos n; of_energy = energy.exact less; is = refl }));
}
  where
    over : Rows
    over = rows_over (pair_arc p pair) rows

    more : IsProjectMatrix p (pairs ++ pair ∷ []) over
    more = matrix_more p pairs pair rows named none m

    energy_low : (bound : ℤ) → IsBoundOf p over bound → pos n ≤ℤ bound
    energy_low bound of =
        ⊎_elim
        (λ (none : n ≡ 0).
        let from : pos 0 ≤ℤ critical_weight over = critical_from_zero p (pairs ++ pair ∷ []) over more in
        let high : critical_weight over ≤ℤ bound = of.critical in
        omega (arith, ints, none))
        (λ (w : IsWithinTerm p heads tails n).
        let term : IsEnergyTerm p (weights_from 0 over) (tail_weights p over) w.value =
        subst (λ (ts : List ℤ). IsEnergyTerm p (weights_from 0 over) ts w.value) tails_are
        (subst (λ (hs : List ℤ). IsEnergyTerm p hs tails w.value) heads_are w.term) in
        let high : w.value ≤ℤ bound = of.greatest w.value term in
        let within : pos n ≤ℤ w.value = w.within in
        omega (arith, ints))
        energy.low

    low : (bound : ℤ) → IsBoundOf p over bound → int_max (start heads (end_of p)) (pos n) ≤ℤ bound
    low bound of =
        let of_energy : pos n ≤ℤ bound = energy_low bound of in
        let of_critical : critical_weight over ≤ℤ bound = of.critical in
        omega (arith, ints, last, int_max_is (start heads (end_of p)) (pos n))
