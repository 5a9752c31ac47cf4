-- What runs in a window, unit by unit.
use Rattle.std.proofs.Common.{◌≡◌, ℕ, ◌+◌, ◌-◌, ◌*◌, ◌<◌, ◌≤◌, cond, ⊎_elim, List, ap, arith, ℤ, pos, negsuc, ◌+ℤ◌, ◌-ℤ◌, ◌≤ℤ◌, suc, inl, inr, Bool, true}
use Rattle.std.proofs.Common.{false, [], ◌∷◌, get_or, length, refl, ◌⊎◌, Option, None, Some, ◌<ℤ◌, ◌&&◌, int_le, int_lt, unsigned_abs, map-id}
use Rattle.std.specs.List.{All, sum_by, AllPairs, range_with_len}
use Rattle.std.proofs.lemmas.Int.{ints, by_lt_z, clamps}
use Rattle.std.proofs.lemmas.List.Elements.{All-from_get_or}
use Rattle.std.proofs.lemmas.List.FromFn.{get_or-range_with_len, length-range_with_len, sum_by-map-range_with_len_more}
use Rattle.network.specs.declared.parts.Lag.{Lag}
use Rattle.network.specs.Problem.{Problem, activity_count, activities, duration, demand, capacity}
use Rattle.network.specs.Schedule.{start, is_running, IsFeasible}
use Rattle.longest_path.specs.Insert.{arc_of}
use Rattle.bounds.proofs.Tasks.{over, over-const, over-sum_by, over-span, sum_by-filter, sum_by-le-each, abs_is}
use Rattle.forbidden_sets.proofs.Apart.{runs_when, apart, BeginsFrom}
use Rattle.lemma_proof.specs.Reasons.{AreBelow, Entries, Implies, MustRun, IsLoad, pair_of, RunsWithin, StartsAfterEnd, RunApart, IsClique, least_part, part_of}
use Rattle.lemma_proof.specs.Reasons.{load_of}
use Rattle.lemma_proof.proofs.Implying.{implied_lower}
use Rattle.lemma_proof.proofs.Packing.{AreApart, IsInside, gap, packed}
use Rattle.lemma_proof.proofs.Weighing.{MeetsAll, implied_met}
use Rattle.forbidden_sets.specs.Incompatible.{AreIncompatible}
use Rattle.std.specs.Int.{int_max, int_min}
use Rattle.std.proofs.Math.Nat.{mul-le-mul_right}
use Rattle.std.proofs.lemmas.Bool.{cases_lt}
use Rattle.network.specs.Walk.{Rows, entry, weight, IsGreatestWeight, IsMatrixOf}

-- an activity that runs in m units of the window or more asks for r in each of them
pub part_in_window : (p : Problem) (s : List ℤ) (from : ℤ) (units i m r : ℕ) → pos m ≤ℤ duration p i → m ≤ units
    → (from +ℤ pos m) ≤ℤ (start s i +ℤ duration p i) → (start s i +ℤ pos m) ≤ℤ (from +ℤ pos units) →
    m * r ≤ over (λ u. cond (is_running p s (from +ℤ pos u) i) r 0) units
part_in_window p s from units i m r short fits late early =
    by_lt_z from (start s i)
    (λ later. from_gap (gap from (start s i) (omega (arith, ints))))
    (λ sooner.
    over-span (λ u. cond (is_running p s (from +ℤ pos u) i) r 0) r 0 m units (omega arith)
    (λ u l h. ap (λ b. cond b r 0) (runs_when (start s i) (from +ℤ pos u) (start s i +ℤ duration p i) (omega (arith, ints)) (omega (arith, ints)))))
  where
    from_gap : (g : ℕ) × (start s i ≡ from +ℤ pos g) → m * r ≤ over (λ u. cond (is_running p s (from +ℤ pos u) i) r 0) units
    from_gap (g, at) =
        over-span (λ u. cond (is_running p s (from +ℤ pos u) i) r 0) r g m units (omega (arith, ints))
        (λ u l h. ap (λ b. cond b r 0) (runs_when (start s i) (from +ℤ pos u) (start s i +ℤ duration p i) (omega (arith, ints)) (omega (arith, ints))))

-- what an activity must run in the window, it runs there
must_run : (p : Problem) (arcs : List Lag) (s : List ℤ) (from to : ℤ) (units i m r : ℕ) → start s 0 ≡ pos 0
    → MeetsAll s arcs → to ≡ from +ℤ pos units → MustRun p arcs from to i m →
    m * r ≤ over (λ u. cond (is_running p s (from +ℤ pos u) i) r 0) units
must_run p arcs s from to units i m r zero met window must =
    let late : (start s 0 +ℤ ((from +ℤ pos m) -ℤ duration p i)) ≤ℤ start s i =
    implied_met arcs s met (arc_of 0 i ((from +ℤ pos m) -ℤ duration p i)) must.late in
    let early : (start s i +ℤ (pos m -ℤ to)) ≤ℤ start s 0 = implied_met arcs s met (arc_of i 0 (pos m -ℤ to)) must.early in
    part_in_window p s from units i m r must.within_activity (omega (arith, ints)) (omega (arith, ints)) (omega (arith, ints))

-- what holds of each activity
pub each_activity : (p : Problem) (P : ℕ → Type 0) → ((i : ℕ) → i < activity_count p → P i) → All P (activities p)
each_activity p P h =
    All-from_get_or P (activities p) 0 (λ i lt.
    let low : i < activity_count p = rw (length-range_with_len 0 (activity_count p)) at lt in
    rw (get_or-range_with_len 0 (activity_count p) i 0 low) (h (0 + i) (omega arith)))

-- so no feasible schedule meets the arcs
pub load_refuted : (p : Problem) (arcs : List Lag) (k : ℕ) (from to : ℤ) (s : List ℤ) → IsLoad p arcs k from to → IsFeasible p s → MeetsAll s arcs → ⊥
load_refuted p arcs k from to s load feasible met =
    let X : List ℕ = activities p in
    let m : ℕ = load.units in
    let g : ℕ → ℕ → ℕ = λ u i. cond (is_running p s (from +ℤ pos u) i) (demand p k i) 0 in
    let work : ℕ → ℕ = λ i. load.parts i * demand p k i in
    let each : sum_by work X ≤ sum_by (λ i. over (λ u. g u i) m) X =
    sum_by-le-each work (λ i. over (λ u. g u i) m) X (each_activity p (λ i. work i ≤ over (λ u. g u i) m) one) in
    let swapped : over (λ u. sum_by (g u) X) m ≡ sum_by (λ i. over (λ u. g u i) m) X = over-sum_by g m X in
    let used : (u : ℕ) → sum_by (g u) X ≤ capacity p k = λ u.
    omega (arith, sum_by-filter (demand p k) (is_running p s (from +ℤ pos u)) (activities p), feasible.within (from +ℤ pos u) k load.in_range) in
    let all : over (λ u. sum_by (g u) X) m ≤ m * capacity p k = over-const (λ u. sum_by (g u) X) (capacity p k) m used in
    let exceeds = load.over in
    omega (arith, each, swapped, all, exceeds)
  where
    one : (i : ℕ) → i < activity_count p → load.parts i * demand p k i ≤ over (λ u. cond (is_running p s (from +ℤ pos u) i) (demand p k i) 0) load.units
    one i lt =
        ⊎_elim
        (λ (none : load.parts i ≡ 0).
        over-span (λ u. cond (is_running p s (from +ℤ pos u) i) (demand p k i) 0) (demand p k i) 0 (load.parts i)
        load.units (omega arith) (λ u l h. absurd (omega (arith, none, l, h))))
        (λ (must : MustRun p arcs from to i (load.parts i)).
        must_run p arcs s from to load.units i (load.parts i) (demand p k i) feasible.schedule.from_zero met
        load.window must)
        (load.each i lt)

-- ---- Activities of which no two can run at the same time, all in one window: together they take no longer than it is.

-- of two in an order, one has ended before the other starts
in_order : (p : Problem) (arcs : List Lag) (s : List ℤ) (i j : ℕ) → MeetsAll s arcs → StartsAfterEnd p arcs i j → (start s i +ℤ duration p i) ≤ℤ start s j
in_order p arcs s i j met order = implied_met arcs s met (arc_of i j (duration p i)) order

-- so has one of two rivals
rivals_apart : (p : Problem) (s : List ℤ) (i j : ℕ) → IsFeasible p s → AreIncompatible p (pair_of i j)
    → ((start s i +ℤ duration p i) ≤ℤ start s j) ⊎ ((start s j +ℤ duration p j) ≤ℤ start s i)
rivals_apart p s i j feasible rivals =
    by_lt_z (start s i) (start s j +ℤ duration p j)
    (λ late. by_lt_z (start s j) (start s i +ℤ duration p i)
    (λ early. absurd (apart p s (pair_of i j) feasible rivals late early))
    (λ kept. inl kept))
    (λ kept. inr kept)

one_first : (p : Problem) (arcs : List Lag) (s : List ℤ) (i j : ℕ) → IsFeasible p s → MeetsAll s arcs → RunApart p arcs i j
    → ((start s i +ℤ duration p i) ≤ℤ start s j) ⊎ ((start s j +ℤ duration p j) ≤ℤ start s i)
one_first p arcs s i j feasible met (inl rivals) = rivals_apart p s i j feasible rivals
one_first p arcs s i j feasible met (inr (inl first)) = inl (in_order p arcs s i j met first)
one_first p arcs s i j feasible met (inr (inr second)) = inr (in_order p arcs s j i met second)

-- so no feasible schedule meets the arcs
pub clique_refuted : (p : Problem) (arcs : List Lag) (from to : ℤ) (members : List ℕ) (s : List ℤ)
    → IsClique p arcs from to members → IsFeasible p s → MeetsAll s arcs → ⊥
clique_refuted p arcs from to members s clique feasible met =
    packed (start s) (λ i. unsigned_abs (duration p i)) from to members (omega (arith, clique.several))
    (λ k d l. within (get_or members k d) (clique.are_members.take_time k d l).long (clique.inside k d l))
    (λ i j d lt l. ordered (get_or members i d) (get_or members j d)
    (clique.are_members.take_time i d (omega arith)).long (clique.are_members.take_time j d l).long
    (clique.apart i j d lt l)) clique.over
  where
    long_is : (i : ℕ) → pos 0 <ℤ duration p i → duration p i ≡ pos (unsigned_abs (duration p i))
    long_is i long = abs_is (duration p i) (omega (arith, ints, long))

    within : (i : ℕ) → pos 0 <ℤ duration p i → RunsWithin p arcs from to i
        → IsInside (start s) (λ x. unsigned_abs (duration p x)) from to i
    within i long runs =
        let zero : start s 0 ≡ pos 0 = feasible.schedule.from_zero in
        let late : (start s 0 +ℤ from) ≤ℤ start s i = implied_met arcs s met (arc_of 0 i from) runs.late in
        let early : (start s i +ℤ (duration p i -ℤ to)) ≤ℤ start s 0 = implied_met arcs s met (arc_of i 0 (duration p i -ℤ to)) runs.early in
        let is = long_is i long in
        record { late = omega (arith, ints, zero, late); early = omega (arith, ints, zero, early, is) }

    ordered : (i j : ℕ) → pos 0 <ℤ duration p i → pos 0 <ℤ duration p j → RunApart p arcs i j
        → AreApart (start s) (λ x. unsigned_abs (duration p x)) i j
    ordered i j long_i long_j run =
        let is_i = long_is i long_i in
        let is_j = long_is j long_j in
        ⊎_elim
        (λ (first : (start s i +ℤ duration p i) ≤ℤ start s j). inl (omega (arith, ints, first, is_i)))
        (λ (second : (start s j +ℤ duration p j) ≤ℤ start s i). inr (omega (arith, ints, second, is_j)))
        (one_first p arcs s i j feasible met run)

pub begins : (xs : List ℕ) → BeginsFrom 0 xs
begins [] = tt
begins (x ∷ xs) = omega arith

-- ---- The part of an activity that runs in a window at least, by a matrix, is the greatest that its arcs imply.

-- ---- the least of four

record IsLeastOf (a b c d : ℤ) (m : ℕ) : Type 0 where
  first : pos m ≤ℤ a
  second : pos m ≤ℤ b
  third : pos m ≤ℤ c
  fourth : pos m ≤ℤ d

least_or_none : (a b c d : ℤ) → (unsigned_abs (int_max (int_min (int_min (int_min a b) c) d) (pos 0)) ≡ 0)
    ⊎ IsLeastOf a b c d (unsigned_abs (int_max (int_min (int_min (int_min a b) c) d) (pos 0)))
least_or_none a b c d =
    ⊎_elim
    (λ (some : 0 < unsigned_abs (int_max (int_min (int_min (int_min a b) c) d) (pos 0))).
    inr (record {
      first = omega (arith, ints, clamps);
      second = omega (arith, ints, clamps);
      third =
          omega (arith, ints, clamps);
      fourth = omega (arith, ints, clamps);
    }))
    (λ (none : unsigned_abs (int_max (int_min (int_min (int_min a b) c) d) (pos 0)) ≤ 0). inl (omega arith))
    (cases_lt 0 (unsigned_abs (int_max (int_min (int_min (int_min a b) c) d) (pos 0))))

at_most_least : (a b c d : ℤ) (m : ℕ) → IsLeastOf a b c d m → m ≤ unsigned_abs (int_max (int_min (int_min (int_min a b) c) d) (pos 0))
at_most_least a b c d m below =
    omega (arith, ints, clamps)

-- ---- an activity's part

part_by : (p : Problem) (arcs : List Lag) (from to : ℤ) (i : ℕ) (head back : Option ℤ)
    → ((w : ℤ) → head ≡ Some w → Implies arcs (arc_of 0 i w)) → ((w : ℤ) → back ≡ Some w → Implies arcs (arc_of i 0 w))
    →
    (least_part (duration p i) from to head back ≡ 0) ⊎ MustRun p arcs from to i (least_part (duration p i) from to head back)
part_by p arcs from to i None back of_head of_back = inl refl
part_by p arcs from to i (Some h) None of_head of_back = inl refl
part_by p arcs from to i (Some h) (Some b) of_head of_back =
    let d : ℤ = duration p i in
    let m : ℕ = least_part d from to (Some h) (Some b) in
    ⊎_elim
    (λ (none : least_part (duration p i) from to (Some h) (Some b) ≡ 0). inl none)
    (λ (below : IsLeastOf (duration p i) (to -ℤ from) ((h +ℤ duration p i) -ℤ from) (to +ℤ b) (least_part (duration p i) from to (Some h) (Some b))).
    inr (record {
      within_activity = below.first;
      within_window = add_back from to m below.second;
      late = implied_lower arcs 0 i ((from +ℤ pos m) -ℤ d) h (move_late from h d m below.third) (of_head h refl);
      early = implied_lower arcs i 0 (pos m -ℤ to) b (move_early to b m below.fourth) (of_back b refl);
    }))
    (least_or_none (duration p i) (to -ℤ from) ((h +ℤ duration p i) -ℤ from) (to +ℤ b))
  where
    add_back : (from to : ℤ) (m : ℕ) → pos m ≤ℤ (to -ℤ from) → (from +ℤ pos m) ≤ℤ to
    add_back from to m h = omega (arith, ints)

    move_late : (from h d : ℤ) (m : ℕ) → pos m ≤ℤ ((h +ℤ d) -ℤ from) → ((from +ℤ pos m) -ℤ d) ≤ℤ h
    move_late from h d m le = omega (arith, ints)

    move_early : (to b : ℤ) (m : ℕ) → pos m ≤ℤ (to +ℤ b) → (pos m -ℤ to) ≤ℤ b
    move_early to b m le = omega (arith, ints)

most_by : (p : Problem) (arcs : List Lag) (from to : ℤ) (i m : ℕ) (head back : Option ℤ)
    → IsGreatestWeight arcs 0 i head → IsGreatestWeight arcs i 0 back → MustRun p arcs from to i m
    → m ≤ least_part (duration p i) from to head back
most_by p arcs from to i m None back of_head of_back must = absurd (of_head must.late.walk must.late.goes)
most_by p arcs from to i m (Some h) None of_head of_back must = absurd (of_back must.early.walk must.early.goes)
most_by p arcs from to i m (Some h) (Some b) of_head of_back must =
    let head : weight must.late.walk ≤ℤ h = of_head.1 must.late.walk must.late.goes in
    let back : weight must.early.walk ≤ℤ b = of_back.1 must.early.walk must.early.goes in
    let short : pos m ≤ℤ duration p i = must.within_activity in
    at_most_least (duration p i) (to -ℤ from) ((h +ℤ duration p i) -ℤ from) (to +ℤ b) m
    (record {
      first = short;
      second = omega (arith, ints);
      third = omega (arith, ints);
      fourth =
          omega (arith, ints);
    })

pub part_is : (p : Problem) (arcs : List Lag) (x : Entries) (from to : ℤ) (i : ℕ) → AreBelow (activity_count p) arcs x
    → i < activity_count p → (part_of p x.rows from to i ≡ 0) ⊎ MustRun p arcs from to i (part_of p x.rows from to i)
part_is p arcs x from to i below lt =
    let some : 0 < activity_count p = omega arith in
    part_by p arcs from to i (entry x.rows 0 i) (entry x.rows i 0) (λ w is. below.walks 0 i w some lt is) (λ w is. below.walks i 0 w lt some is)

pub part_most : (p : Problem) (arcs : List Lag) (rows : Rows) (from to : ℤ) (i k : ℕ)
    → IsMatrixOf (activity_count p) arcs rows → i < activity_count p → MustRun p arcs from to i k
    → k ≤ part_of p rows from to i
part_most p arcs rows from to i k m lt must =
    let some : 0 < activity_count p = omega arith in
    most_by p arcs from to i k (entry rows 0 i) (entry rows i 0) (m.greatest 0 i some lt) (m.greatest i 0 lt some) must

-- ---- the load

pub load_more : (p : Problem) (rows : Rows) (k : ℕ) (from to : ℤ) (n : ℕ)
    → load_of p rows k from to (range_with_len 0 (n + 1)) ≡ load_of p rows k from to (range_with_len 0 n) + part_of p
    rows from to n * demand p k n
load_more p rows k from to n =
    let work : ℕ → ℕ = λ i. part_of p rows from to i * demand p k i in
    rw (map-id (range_with_len 0 (n + 1)), map-id (range_with_len 0 n)) at (sum_by-map-range_with_len_more work (λ i. i) 0 n n (omega arith))

-- what must run asks for no more than the load
pub load_most : (p : Problem) (arcs : List Lag) (rows : Rows) (k : ℕ) (from to : ℤ) (load : IsLoad p arcs k from to)
    → IsMatrixOf (activity_count p) arcs rows
    → sum_by (λ i. load.parts i * demand p k i) (activities p) ≤ load_of p rows k from to (activities p)
load_most p arcs rows k from to load m =
    sum_by-le-each (λ i. load.parts i * demand p k i) (λ i. part_of p rows from to i * demand p k i) (activities p)
    (each_activity p (λ i. load.parts i * demand p k i ≤ part_of p rows from to i * demand p k i) (λ i lt. mul-le-mul_right (demand p k i) (below i lt)))
  where
    below : (i : ℕ) → i < activity_count p → load.parts i ≤ part_of p rows from to i
    below i lt = ⊎_elim (λ (none : load.parts i ≡ 0). omega arith)
        (λ (must : MustRun p arcs from to i (load.parts i)). part_most p arcs rows from to i (load.parts i) m lt must)
        (load.each i lt)
