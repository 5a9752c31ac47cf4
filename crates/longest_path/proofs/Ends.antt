-- What the entries of a matrix from the start and to the end say: earliest starts and tails.
use Rattle.std.proofs.Common.{◌≡◌, refl, ℕ, ◌+◌, ◌<◌, ◌≤◌, zero, suc, inl, inr, arith, ℤ, pos, ◌≤ℤ◌, List, [], ◌∷◌, map, Option, None, Some, length, sym, ap}
use Rattle.std.proofs.Common.{◌-◌, ◌+ℤ◌, ◌-ℤ◌, IfSome, FitsSigned}
use Rattle.std.proofs.lemmas.Int.{ints}
use Rattle.std.specs.List.{Contains, range_with_len, All}
use Rattle.std.proofs.lemmas.Bool.{cases_eq}
use Rattle.std.proofs.lemmas.List.Elements.{Contains-append_right, All-from_get_or, All-weaker, All-get_or}
use Rattle.std.proofs.lemmas.List.FromFn.{get_or-map-range_with_len, length-map-range_with_len}
use Rattle.network.specs.declared.parts.Lag.{Lag}
use Rattle.network.specs.declared.parts.Pair.{Pair}
use Rattle.network.specs.Problem.{Problem, activity_count, end_of, duration, start_arc, end_arc, implied_arcs, arcs_of, IsProject, IsWithin, IsBetween, IsTime}
use Rattle.network.specs.Problem.{IsAmount}
use Rattle.network.specs.Walk.{IsProjectMatrix, IsWalk, weight, entry, IsGreatestWeight, Rows, weights_from}
use Rattle.network.proofs.FaultLaws.{AreLight-arcs_of}
use Rattle.longest_path.proofs.Bound.{IsMatrixOf-within}
use Rattle.longest_path.specs.declared.insert.TheConstants.{MAX_WAY_WITH}
use Rattle.network.specs.declared.limits.TheConstants.{MAX_ACTIVITIES, MAX_WALK_WEIGHT}
use Rattle.network.proofs.Walks.{most_weight}
use Rattle.std.specs.Option.{unwrap_or}
use Rattle.network.proofs.Schedules.{IsLeastSchedule-weights, walk_holds, arcs_met, rule_contains, start_rule}
use Rattle.longest_path.specs.Ends.{AreEarliest, tail, tail_weight, tail_weights, AreTails}
use Rattle.std.specs.Int.{w64}
use Rattle.network.specs.Schedule.{start, makespan, IsSchedule, KeepsAll}

-- ---- The entries of a matrix of a project and pairs, from the start and to the end.

-- a walk of at least the weight w
pub record Spans (arcs : List Lag) (a b : ℕ) (w : ℤ) : Type 0 where
  pub walk : List Lag
  pub goes : IsWalk arcs a walk b
  pub weighs : w ≤ℤ weight walk

-- the start reaches each activity
pub from_start : (p : Problem) (pairs : List Pair) (i : ℕ) → i < activity_count p → Spans (arcs_of p pairs) 0 i (pos 0)
from_start p pairs zero lt = record { walk = []; goes = refl; weighs = omega (arith, ints) }
from_start p pairs (suc i) lt = record {
  walk = start_arc (suc i) ∷ [];
  goes =
      (rule_contains p pairs (start_arc (suc i)) (start_rule p i lt), refl, refl);
  weighs = omega (arith, ints);
}

-- each activity reaches the end, no sooner than it ends
pub to_end : (p : Problem) (pairs : List Pair) (i : ℕ) → IsProject p → i < activity_count p → Spans (arcs_of p pairs) i (end_of p) (duration p i)
to_end p pairs i is lt =
    elim (cases_eq i (end_of p)) [
      | inl e ↦
          let none : duration p (end_of p) ≡ pos 0 = is.end_is_dummy.no_time in
          let same : duration p i ≡ pos 0 = rw e none in
          record { walk = []; goes = e; weighs = rw same (omega (arith, ints)) }
      | inr ne ↦
          let low : i < end_of p = omega arith in
          let len = length-map-range_with_len (end_arc p) 0 (end_of p) in
          let here : Contains (map (end_arc p) (range_with_len 0 (end_of p))) (end_arc p i) =
          (i, rw len low, get_or-map-range_with_len (end_arc p) 0 (end_of p) i i (end_arc p i) low (omega arith)) in
          let there = rule_contains p pairs (end_arc p i)
          (Contains-append_right p.lags (implied_arcs p) (end_arc p i)
          (Contains-append_right (map start_arc (range_with_len 1 (end_of p)))
          (map (end_arc p) (range_with_len 0 (end_of p))) (end_arc p i) here)) in
          record { walk = end_arc p i ∷ []; goes = (there, refl, refl); weighs = omega (arith, ints) }
    ]

-- an entry that is there, by a walk of its weight
pub record IsReachedBy (arcs : List Lag) (a b : ℕ) (o : Option ℤ) (w : ℤ) : Type 0 where
  pub value : ℤ
  pub is : o ≡ Some value
  pub at_least : w ≤ℤ value
  pub walk : List Lag
  pub goes : IsWalk arcs a walk b
  pub weighs : weight walk ≡ value

pub reached : (arcs : List Lag) (a b : ℕ) (o : Option ℤ) (w : ℤ) → IsGreatestWeight arcs a b o → Spans arcs a b w → IsReachedBy arcs a b o w
reached arcs a b None w g s = absurd (g s.walk s.goes)
reached arcs a b (Some v) w g s =
    let low : w ≤ℤ weight s.walk = s.weighs in
    let high : weight s.walk ≤ℤ v = g.1 s.walk s.goes in
    record { value = v; is = refl; at_least = omega (arith, ints); walk = g.0.0; goes = g.0.1; weighs = g.0.2 }

-- no entry is above the limit of entries
pub entry_limit : (p : Problem) (pairs : List Pair) (rows : Rows) → IsProjectMatrix p pairs rows →
    (a b : ℕ) (w : ℤ) → a < activity_count p → b < activity_count p → entry rows a b ≡ Some w → w ≤ℤ MAX_WALK_WEIGHT
entry_limit p pairs rows m a b w la lb e =
    let within : IsWithin (most_weight (activity_count p + 1)) w =
    IsMatrixOf-within (arcs_of p pairs) (activity_count p) rows (AreLight-arcs_of p pairs m.limits m.named) m.matrix
    a b w la lb e in
    let few : activity_count p ≤ MAX_ACTIVITIES = m.limits.activity_limit in
    omega (arith, ints)

-- ---- The greatest weights from the start are the earliest starts.

time_of : (z : ℤ) → IsBetween (pos 0) MAX_WALK_WEIGHT z → IsTime z
time_of z is = record { at_most = omega (arith, ints); at_least = omega (arith, ints) }

weight_range : (p : Problem) (pairs : List Pair) (rows : Rows) → IsProjectMatrix p pairs rows →
    (i : ℕ) → i < activity_count p → IsBetween (pos 0) MAX_WALK_WEIGHT (unwrap_or (entry rows 0 i) (pos 0))
weight_range p pairs rows m i lt =
    let first : 0 < activity_count p = omega arith in
    let at = reached (arcs_of p pairs) 0 i (entry rows 0 i) (pos 0) (m.matrix.greatest 0 i first lt) (from_start p pairs i lt) in
    let high : at.value ≤ℤ MAX_WALK_WEIGHT = entry_limit p pairs rows m 0 i at.value first lt at.is in
    rw at.is (record { at_least = at.at_least; at_most = high })

weights_range : (p : Problem) (pairs : List Pair) (rows : Rows) → IsProjectMatrix p pairs rows →
    All (IsBetween (pos 0) MAX_WALK_WEIGHT) (weights_from 0 rows)
weights_range p pairs rows m =
    All-from_get_or (IsBetween (pos 0) MAX_WALK_WEIGHT) (weights_from 0 rows) (pos 0) (λ i lt.
    let long : length (weights_from 0 rows) ≡ length rows = length-map-range_with_len (λ b. unwrap_or (entry rows 0 b) (pos 0)) 0 (length rows) in
    let low : i < length rows = rw long at lt in
    let inside : i < activity_count p = rw m.matrix.square.0 at low in
    rw (get_or-map-range_with_len (λ b. unwrap_or (entry rows 0 b) (pos 0)) 0 (length rows) i i (pos 0) low
    (omega arith)) (weight_range p pairs rows m i inside))

pub AreEarliest-weights : (p : Problem) (pairs : List Pair) (rows : Rows) → IsProjectMatrix p pairs rows → AreEarliest p pairs (weights_from 0 rows)
AreEarliest-weights p pairs rows m =
    let least = IsLeastSchedule-weights p pairs rows m in
    let range = weights_range p pairs rows m in
    record {
      least = least;
      limits = record { count = least.schedule.whole; within = All-weaker (IsBetween (pos 0) MAX_WALK_WEIGHT) IsTime time_of (weights_from 0 rows) range };
      range = range;
    }

-- ---- The greatest weights to the end, less the durations, are tails.

pub difference_fits : (m : ℤ) (o : Option ℤ) (d : ℤ) → m ≤ℤ MAX_WAY_WITH → IfSome o (λ w. IsWithin m w) → IsAmount d → FitsSigned w64 (unwrap_or o (pos 0) -ℤ d)
difference_fits m None d low within amount = omega (arith, ints)
difference_fits m (Some w) d low within amount = omega (arith, ints)

weight_to_end : (p : Problem) (pairs : List Pair) (rows : Rows) → IsProjectMatrix p pairs rows → (i : ℕ) → i < activity_count p →
    IsReachedBy (arcs_of p pairs) i (end_of p) (entry rows i (end_of p)) (duration p i)
weight_to_end p pairs rows m i lt =
    let last : end_of p < activity_count p = omega arith in
    reached (arcs_of p pairs) i (end_of p) (entry rows i (end_of p)) (duration p i) (m.matrix.greatest i (end_of p) lt last) (to_end p pairs i m.limits lt)

tail_range : (p : Problem) (pairs : List Pair) (rows : Rows) → IsProjectMatrix p pairs rows → (i : ℕ) → i < activity_count p →
    IsBetween (pos 0) MAX_WALK_WEIGHT (tail_weight p rows i)
tail_range p pairs rows m i lt =
    let at = weight_to_end p pairs rows m i lt in
    let last : end_of p < activity_count p = omega arith in
    let high : at.value ≤ℤ MAX_WALK_WEIGHT = entry_limit p pairs rows m i (end_of p) at.value lt last at.is in
    let low : duration p i ≤ℤ at.value = at.at_least in
    let amount : IsAmount (duration p i) = All-get_or IsAmount p.durations i (pos 0) lt m.limits.durations_fit in
    rw at.is (record { at_most = omega (arith, ints); at_least = omega (arith, ints) })

tail_at : (p : Problem) (rows : Rows) (i : ℕ) → i < activity_count p → tail (tail_weights p rows) i ≡ tail_weight p rows i
tail_at p rows i lt = get_or-map-range_with_len (tail_weight p rows) 0 (activity_count p) i i (pos 0) lt (omega arith)

tail_lasts : (p : Problem) (pairs : List Pair) (rows : Rows) → IsProjectMatrix p pairs rows →
    (s : List ℤ) → IsSchedule p s → KeepsAll p s pairs → (i : ℕ) → i < activity_count p → ((start s i +ℤ duration p i) +ℤ tail_weight p rows i) ≤ℤ makespan s
tail_lasts p pairs rows m s schedule keeps i lt =
    let at = weight_to_end p pairs rows m i lt in
    let h : (start s i +ℤ weight at.walk) ≤ℤ start s (end_of p) =
    walk_holds (arcs_of p pairs) s (arcs_met p pairs s schedule keeps) i (end_of p) at.walk at.goes in
    let w : weight at.walk ≡ at.value = at.weighs in
    let last : start s (end_of p) ≡ makespan s = ap (λ n. start s (n - 1)) (sym schedule.whole) in
    rw at.is (omega (arith, ints))

pub AreTails-weights : (p : Problem) (pairs : List Pair) (rows : Rows) → IsProjectMatrix p pairs rows → AreTails p pairs (tail_weights p rows)
AreTails-weights p pairs rows m = record {
  count = length-map-range_with_len (tail_weight p rows) 0 (activity_count p);
  range = All-from_get_or (IsBetween (pos 0) MAX_WALK_WEIGHT) (tail_weights p rows) (pos 0) (λ i lt.
      let inside : i < activity_count p = rw (length-map-range_with_len (tail_weight p rows) 0 (activity_count p)) at lt in
      rw (tail_at p rows i inside) (tail_range p pairs rows m i inside));
  lasts = λ s schedule keeps i lt. rw (tail_at p rows i lt) (tail_lasts p pairs rows m s schedule keeps i lt);
}
