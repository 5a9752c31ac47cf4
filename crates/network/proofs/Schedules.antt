-- Schedules and walks: each walk is a rule, so no schedule stands where a closed walk is positive,
-- and the greatest weights of walks from the start are the least schedule.
use Rattle.std.proofs.Common.{◌≡◌, refl, sym, ◌∙◌, ap, ℕ, ◌-◌, ◌<◌, ◌≤◌, zero, suc, inl, inr, arith, ℤ, pos, ◌≤ℤ◌, ◌<ℤ◌, ◌+ℤ◌, List, [], ◌∷◌, ◌++◌, length, map}
use Rattle.std.proofs.Common.{append_assoc, Option, None, Some, ◌+◌}
use Rattle.std.proofs.lemmas.Int.{ints}
use Rattle.std.specs.List.{All, Contains, range_with_len}
use Rattle.std.specs.Option.{unwrap_or}
use Rattle.std.proofs.lemmas.List.{length-map, get_or-map, map-append}
use Rattle.std.proofs.lemmas.List.Elements.{Contains-append_cases, Contains-append_left, Contains-append_right, All-contains, All-weaker, All-contains_itself}
use Rattle.std.proofs.lemmas.List.Elements.{All-filter}
use Rattle.std.proofs.lemmas.List.FromFn.{get_or-map-range_with_len, length-map-range_with_len, length-range_with_len, get_or-range_with_len}
use Rattle.network.specs.Problem.{Problem, activity_count, end_of, start_arc, end_arc, pair_arc, implied_arcs, rules, arcs_of, activities, Lag, Pair}
use Rattle.network.specs.Schedule.{start, Meets, IsSchedule, Keeps, KeepsAll, IsLeastSchedule, makespan, IsTrueBound, is_running, running}
use Rattle.network.specs.Walk.{IsProjectMatrix, Rows, IsWalk, weight, entry, IsMatrixOf, IsGreatestWeight, HasPositiveCycle, weights_from}
use Rattle.network.proofs.Walks.{IsWalk-append, weight-append}
use Rattle.network.proofs.FaultLaws.{mapped_list, AreInside-arcs_of}
use Rattle.std.specs.List.Sorted.{IsStrictlyIncreasing}
use Rattle.std.proofs.lemmas.List.Kept.{IsStrictlyIncreasing-filter}

-- a list of starts that meets the arcs is as long as each walk says
pub walk_holds : (arcs : List Lag) (s : List ℤ) → ((e : Lag) → Contains arcs e → Meets s e) → (a b : ℕ) (es : List Lag)
    → IsWalk arcs a es b → (start s a +ℤ weight es) ≤ℤ start s b
walk_holds arcs s met a b [] w = rw w (omega (arith, ints))
walk_holds arcs s met a b (e ∷ es) w =
    let one : (start s e.from +ℤ e.weight) ≤ℤ start s e.to = met e w.0 in
    let here : (start s a +ℤ e.weight) ≤ℤ start s e.to = rw w.1 at one in
    let others : (start s e.to +ℤ weight es) ≤ℤ start s b = walk_holds arcs s met e.to b es w.2 in
    omega (arith, ints)

-- a schedule that keeps the pairs meets all arcs
pub arcs_met : (p : Problem) (pairs : List Pair) (s : List ℤ) → IsSchedule p s → KeepsAll p s pairs → (e : Lag) → Contains (arcs_of p pairs) e → Meets s e
arcs_met p pairs s is keeps e c =
    elim (Contains-append_cases (rules p) (map (pair_arc p) pairs) e c) [
      | inl r ↦ All-contains (Meets s) (rules p) e is.rules_met r
      | inr q ↦
          let m = mapped_list (pair_arc p) e pairs q.0 q.1 q.2 in
          let kept : Meets s (pair_arc p m.0) = All-contains (Keeps p s) pairs m.0 keeps m.1 in
          rw m.2 kept
    ]

pub no_schedule_on_cycle : (p : Problem) (pairs : List Pair) (s : List ℤ) → HasPositiveCycle (arcs_of p pairs) → IsSchedule p s → KeepsAll p s pairs → ⊥
no_schedule_on_cycle p pairs s cycle is keeps =
    let a = cycle.0 in
    let es = cycle.1 in
    let h : (start s cycle.0 +ℤ weight cycle.1) ≤ℤ start s cycle.0 =
    walk_holds (arcs_of p pairs) s (arcs_met p pairs s is keeps) cycle.0 cycle.0 cycle.1 cycle.2.closed in
    let positive : pos 0 <ℤ weight cycle.1 = cycle.2.positive in
    omega (arith, ints)

start_weights : (rows : Rows) (a b : ℕ) → b < length rows → start (weights_from a rows) b ≡ unwrap_or (entry rows a b) (pos 0)
start_weights rows a b lt = get_or-map-range_with_len (λ c. unwrap_or (entry rows a c) (pos 0)) 0 (length rows) b b (pos 0) lt (omega arith)

-- what an entry says, by its value
pub record IsAttained (arcs : List Lag) (a b : ℕ) (g : ℤ) : Type 0 where
  pub walk : List Lag
  pub goes : IsWalk arcs a walk b
  pub weighs : weight walk ≡ g
  pub greatest : (es : List Lag) → IsWalk arcs a es b → weight es ≤ℤ g

attained_by : (arcs : List Lag) (a b : ℕ) (o : Option ℤ) → IsGreatestWeight arcs a b o → (es : List Lag)
    → IsWalk arcs a es b → IsAttained arcs a b (unwrap_or o (pos 0))
attained_by arcs a b None none es w = absurd (none es w)
attained_by arcs a b (Some g) h es w = record { walk = h.0.0; goes = h.0.1; weighs = h.0.2; greatest = h.1 }

pub rule_contains : (p : Problem) (pairs : List Pair) (e : Lag) → Contains (rules p) e → Contains (arcs_of p pairs) e
rule_contains p pairs e c = Contains-append_left (rules p) (map (pair_arc p) pairs) e c

-- that an activity starts no sooner than the start is a rule
pub start_rule : (p : Problem) (i : ℕ) → suc i < activity_count p → Contains (rules p) (start_arc (suc i))
start_rule p i lt =
    let len = length-map-range_with_len start_arc 1 (end_of p) in
    let low : i < end_of p = omega arith in
    let here : Contains (map start_arc (range_with_len 1 (end_of p))) (start_arc (suc i)) =
    (i, rw len low, get_or-map-range_with_len start_arc 1 (end_of p) i (suc i) (start_arc (suc i)) low (omega arith)) in
    Contains-append_right p.lags (implied_arcs p) (start_arc (suc i))
    (Contains-append_left (map start_arc (range_with_len 1 (end_of p)))
    (map (end_arc p) (range_with_len 0 (end_of p))) (start_arc (suc i)) here)

-- the start reaches each activity
from_start : (p : Problem) (pairs : List Pair) (i : ℕ) → i < activity_count p → (es : List Lag) × IsWalk (arcs_of p pairs) 0 es i
from_start p pairs zero lt = ([], refl)
from_start p pairs (suc i) lt = (start_arc (suc i) ∷ [], (rule_contains p pairs (start_arc (suc i)) (start_rule p i lt), refl, refl))

entry_attained : (p : Problem) (pairs : List Pair) (rows : Rows) → IsMatrixOf (activity_count p) (arcs_of p pairs) rows → (i : ℕ) → i < activity_count p →
    IsAttained (arcs_of p pairs) 0 i (start (weights_from 0 rows) i)
entry_attained p pairs rows m i lt =
    let zero_in : 0 < activity_count p = omega arith in
    let w = from_start p pairs i lt in
    let long : length rows ≡ activity_count p = m.square.0 in
    let at = attained_by (arcs_of p pairs) 0 i (entry rows 0 i) (m.greatest 0 i zero_in lt) w.0 w.1 in
    rw (start_weights rows 0 i (rw long lt)) at

weights_meet : (p : Problem) (pairs : List Pair) (rows : Rows) → IsMatrixOf (activity_count p) (arcs_of p pairs) rows
    → (e : Lag) → Contains (arcs_of p pairs) e → e.from < activity_count p → e.to < activity_count p
    → Meets (weights_from 0 rows) e
weights_meet p pairs rows m e here lf lt =
    let from = entry_attained p pairs rows m e.from lf in
    let to = entry_attained p pairs rows m e.to lt in
    let longer = IsWalk-append (arcs_of p pairs) 0 e.from e.to from.walk (e ∷ []) from.goes (here, refl, refl) in
    let sum = weight-append from.walk (e ∷ []) in
    let bound : weight (from.walk ++ e ∷ []) ≤ℤ start (weights_from 0 rows) e.to = to.greatest (from.walk ++ e ∷ []) longer in
    let is : weight from.walk ≡ start (weights_from 0 rows) e.from = from.weighs in
    omega (arith, ints, sum)

-- what holds of each element that a list contains
All-from_contains : {X : Type 0} (P : X → Type 0) (xs : List X) → ((x : X) → Contains xs x → P x) → All P xs
All-from_contains P xs h = All-weaker (Contains xs) P h xs (All-contains_itself xs)

Contains-map : (f : Pair → Lag) (qs : List Pair) (q : Pair) → Contains qs q → Contains (map f qs) (f q)
Contains-map f qs q c =
    let len : length (map f qs) ≡ length qs = length-map qs f in
    (c.0, rw len c.1, get_or-map f qs c.0 q (f q) c.1 ∙ ap f c.2)

pub IsLeastSchedule-weights : (p : Problem) (pairs : List Pair) (rows : Rows) → IsProjectMatrix p pairs rows → IsLeastSchedule p pairs (weights_from 0 rows)
IsLeastSchedule-weights p pairs rows m = record {
  schedule = record {
    whole = length-map-range_with_len (λ b. unwrap_or (entry rows 0 b) (pos 0)) 0 (length rows) ∙ m.matrix.square.0;
    from_zero = zero_start;
    rules_met = All-from_contains (Meets (weights_from 0 rows)) (rules p) (λ e c. met e (rule_contains p pairs e c));
  };
  keeps = All-from_contains (Keeps p (weights_from 0 rows)) pairs (λ q c.
      met (pair_arc p q) (Contains-append_right (rules p) (map (pair_arc p) pairs) (pair_arc p q) (Contains-map (pair_arc p) pairs q c)));
  least = λ t is' keeps i lt.
      let at = entry_attained p pairs rows m.matrix i lt in
      let h : (start t 0 +ℤ weight at.walk) ≤ℤ start t i = walk_holds (arcs_of p pairs) t (arcs_met p pairs t is' keeps) 0 i at.walk at.goes in
      let z : start t 0 ≡ pos 0 = is'.from_zero in
      let w : weight at.walk ≡ start (weights_from 0 rows) i = at.weighs in
      omega (arith, ints);
}
  where
    met : (e : Lag) → Contains (arcs_of p pairs) e → Meets (weights_from 0 rows) e
    met e c = let ends = AreInside-arcs_of p pairs m.limits m.named e c in weights_meet p pairs rows m.matrix e c ends.0 ends.1

    zero_start : start (weights_from 0 rows) 0 ≡ pos 0
    zero_start =
        let two : 2 ≤ activity_count p = m.limits.two_dummies in
        let at = entry_attained p pairs rows m.matrix 0 (omega arith) in
        let above : pos 0 ≤ℤ start (weights_from 0 rows) 0 = at.greatest [] refl in
        let below : weight at.walk ≤ℤ pos 0 = m.matrix.no_cycle 0 at.walk at.goes in
        let w : weight at.walk ≡ start (weights_from 0 rows) 0 = at.weighs in
        omega (arith, ints)

-- the greatest weight from the start to the end is a true bound of the node
pub IsTrueBound-critical : (p : Problem) (pairs : List Pair) (rows : Rows) → IsProjectMatrix p pairs rows → (c : ℤ)
    → entry rows 0 (end_of p) ≡ Some c → IsTrueBound p pairs c
IsTrueBound-critical p pairs rows m c e = λ s stands.
    let two : 2 ≤ activity_count p = m.limits.two_dummies in
    let at : IsGreatestWeight (arcs_of p pairs) 0 (end_of p) (Some c) = rw e at (m.matrix.greatest 0 (end_of p) (omega arith) (omega arith)) in
    let h : (start s 0 +ℤ weight at.0.0) ≤ℤ start s (end_of p) =
    walk_holds (arcs_of p pairs) s (arcs_met p pairs s stands.feasible.schedule stands.keeps) 0 (end_of p) at.0.0 at.0.1 in
    let z : start s 0 ≡ pos 0 = stands.feasible.schedule.from_zero in
    let w : weight at.0.0 ≡ c = at.0.2 in
    let last : start s (end_of p) ≡ makespan s = ap (λ n. start s (n - 1)) (sym stands.feasible.schedule.whole) in
    omega (arith, ints)

-- one pair more is one arc more
pub arcs_of-push : (p : Problem) (pairs : List Pair) (q : Pair) → arcs_of p (pairs ++ q ∷ []) ≡ arcs_of p pairs ++ pair_arc p q ∷ []
arcs_of-push p pairs q = ap (λ (t : List Lag). rules p ++ t) (map-append (pair_arc p) pairs (q ∷ []))
    ∙ sym (append_assoc (rules p) (map (pair_arc p) pairs) (pair_arc p q ∷ []))

-- ---- The activities that run at a unit of time are activities, and rise.

-- the numbers of a range are below its end
pub range_below : (n : ℕ) → All (λ i. i < n) (range_with_len 0 n)
range_below n k d l =
    let short : k < n = omega (arith, length-range_with_len 0 n) in
    omega (arith, get_or-range_with_len 0 n k d short)

range_rising : (n : ℕ) → IsStrictlyIncreasing (range_with_len 0 n)
range_rising n k l =
    let short : k + 1 < n = omega (arith, length-range_with_len 0 n) in
    omega (arith, get_or-range_with_len 0 n k 0 (omega arith), get_or-range_with_len 0 n (k + 1) 0 short)

pub running_below : (p : Problem) (s : List ℤ) (t : ℤ) (is : List ℕ) → is ≡ running p s t → All (λ i. i < activity_count p) is
running_below p s t is e = rw e (All-filter (is_running p s t) (λ i. i < activity_count p) (activities p) (range_below (activity_count p)))

pub running_rising : (p : Problem) (s : List ℤ) (t : ℤ) (is : List ℕ) → is ≡ running p s t → IsStrictlyIncreasing is
running_rising p s t is e = rw e (IsStrictlyIncreasing-filter (is_running p s t) (activities p) (range_rising (activity_count p)))
