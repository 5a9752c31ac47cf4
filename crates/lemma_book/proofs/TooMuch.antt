-- Where an activity alone asks for too much there is no schedule.
use Rattle.std.proofs.Common.{ℕ, ◌<◌, ◌+◌, List, [], ◌∷◌, ◌++◌, get_or, arith, ℤ, pos, ◌+ℤ◌, ◌<ℤ◌, ◌≤ℤ◌, ◌≡◌, refl, Bool, true, false, ◌&&◌, int_lt, nat_lt}
use Rattle.std.proofs.Common.{length, slice_index_or}
use Rattle.std.specs.List.{All, Any, Contains, range_with_len}
use Rattle.std.proofs.lemmas.Bool.{ltb-true}
use Rattle.std.proofs.lemmas.Int.{ints}
use Rattle.std.proofs.lemmas.List.Elements.{All-cons, All-nil, Contains-append_right}
use Rattle.std.proofs.lemmas.List.Folds.{Any-from_list_any}
use Rattle.std.proofs.lemmas.List.FromFn.{length-range_with_len, get_or-range_with_len}
use Rattle.network.specs.Problem.{Problem, activities, activity_count, capacity, demand, duration, resource_count}
use Rattle.network.specs.Schedule.{start, IsFeasible}
use Rattle.forbidden_sets.proofs.Apart.{not_all_run}
use Rattle.longest_path.proofs.Reach.{int_lt-true}
use Rattle.network.specs.Problem.{rules}
use Rattle.network.specs.Walk.{HasPositiveCycle}
use Rattle.network.specs.Horizon.{horizon}
use Rattle.network.specs.declared.parts.Lag.{Lag}
use Rattle.lemma_proof.specs.Lines.{impossible}
use Rattle.lemma_book.specs.Ledger.{asks_too_much, deadline, exceeds, exceeds_some, first_roots}

-- an activity that takes time and asks for more than there is can't run
too_much_of : (p : Problem) (s : List ℤ) (i k : ℕ) → IsFeasible p s → i < activity_count p → k < resource_count p
    → pos 0 <ℤ duration p i → capacity p k < demand p k i → ⊥
too_much_of p s i k feasible named in_range long more =
    not_all_run p s k (i ∷ []) (start s i) feasible in_range (λ j l. absurd (omega arith))
    (one (λ j. j < activity_count p) named) (omega arith) (one (λ j. start s j ≤ℤ start s i) (omega (arith, ints)))
    (one (λ j. start s i <ℤ (start s j +ℤ duration p j)) (omega (arith, ints)))
  where
    one : (P : ℕ → Type 0) → P i → All P (i ∷ [])
    one P here = All-cons P i [] here (All-nil P)

of_both : (p : Problem) (s : List ℤ) (i k : ℕ) → IsFeasible p s → i < activity_count p → k < resource_count p → exceeds p i k ≡ true → ⊥
of_both p s i k feasible named in_range both = found (and_true (int_lt (pos 0) (duration p i)) (nat_lt (capacity p k) (demand p k i)) both)
  where
    and_true : (x y : Bool) → (x && y) ≡ true → (x ≡ true) × (y ≡ true)
    and_true true y h = (refl, h)
    and_true false y h = absurd (let bad : false ≡ true = h in cc)

    found : (int_lt (pos 0) (duration p i) ≡ true) × (nat_lt (capacity p k) (demand p k i) ≡ true) → ⊥
    found (long, more) = too_much_of p s i k feasible named in_range (int_lt-true (pos 0) (duration p i) long) (ltb-true (capacity p k) (demand p k i) more)

-- an element of the numbers below n
below : (n k x : ℕ) → k < length (range_with_len 0 n) → slice_index_or (range_with_len 0 n) k x ≡ x → x < n
below n k x l at =
    let long : length (range_with_len 0 n) ≡ n = length-range_with_len 0 n in
    let here : get_or (range_with_len 0 n) k x ≡ 0 + k = get_or-range_with_len 0 n k x (omega (arith, long)) in
    let same : slice_index_or (range_with_len 0 n) k x ≡ get_or (range_with_len 0 n) k x = refl in
    omega (arith, long, here, at)

of_activity : (p : Problem) (s : List ℤ) (i : ℕ) → IsFeasible p s → i < activity_count p → exceeds_some p i ≡ true → ⊥
of_activity p s i feasible named some = found (Any-from_list_any (exceeds p i) (range_with_len 0 (resource_count p)) some)
  where
    found : Any (λ k. exceeds p i k ≡ true) (range_with_len 0 (resource_count p)) → ⊥
    found (at, k, l, is, both) = of_both p s i k feasible named (below (resource_count p) at k l is) both

pub too_much_out : (p : Problem) (s : List ℤ) → IsFeasible p s → asks_too_much p ≡ true → ⊥
too_much_out p s feasible asks = found (Any-from_list_any (exceeds_some p) (activities p) asks)
  where
    found : Any (λ i. exceeds_some p i ≡ true) (activities p) → ⊥
    found (at, i, l, is, some) = of_activity p s i feasible (below (activity_count p) at i l is) some

-- the root's arcs close a walk of positive weight then
pub asked_cycle : (p : Problem) → asks_too_much p ≡ true → HasPositiveCycle (rules p ++ first_roots p)
asked_cycle p asks =
    let roots : List Lag = deadline p (pos (horizon p + 1)) ∷ impossible ∷ [] in
    let there : Contains (rules p ++ roots) impossible = Contains-append_right (rules p) roots impossible (1, omega arith, refl) in
    rw asks (0, impossible ∷ [], record { closed = (there, refl, refl); positive = omega (arith, ints) })
