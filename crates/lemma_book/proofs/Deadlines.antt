-- With a deadline every activity reaches every other: by the end, the deadline and the start.
use Rattle.std.proofs.Common.{◌≡◌, refl, subst, append-nil, ℕ, zero, suc, ◌<◌, ◌≤◌, ⊎_elim, arith, ℤ, pos, neg_ℤ, ◌+ℤ◌, ◌≤ℤ◌, List, [], ◌∷◌, ◌++◌, map, length}
use Rattle.std.proofs.Common.{Option, None, Some}
use Rattle.std.specs.List.{Contains, range_with_len}
use Rattle.std.proofs.lemmas.Bool.{cases_lt}
use Rattle.std.proofs.lemmas.Int.{ints}
use Rattle.std.proofs.lemmas.List.Elements.{Contains-append_left, Contains-append_right}
use Rattle.std.proofs.lemmas.List.FromFn.{get_or-map-range_with_len, length-map-range_with_len}
use Rattle.network.specs.declared.parts.Lag.{Lag}
use Rattle.network.specs.declared.limits.TheConstants.{MAX_WALK_WEIGHT}
use Rattle.network.specs.Problem.{Problem, IsProject, IsAmount, activity_count, duration, end_of, end_arc, implied_arcs, rules, arcs_of, start_arc}
use Rattle.network.specs.Walk.{Rows, entry, IsWalk, weight, HasPositiveCycle, IsGreatestWeight, IsLeastCycleTop, IsMatrixOf}
use Rattle.network.proofs.Schedules.{start_rule}
use Rattle.network.proofs.Walks.{IsWalk-append, weight-append}
use Rattle.lemma_proof.proofs.Existing.{cycle_part}
use Rattle.longest_path.specs.Insert.{arc_of, weight_over, rows_over, AddsArc, ClosesCycle, FillsRows}
use Rattle.longest_path.specs.Matrix.{joined, Reaches, IsFull}
use Rattle.longest_path.proofs.Inserted.{length-rows_over, entry-rows_over}
use Rattle.longest_path.proofs.Reach.{Reaches-weaker, greater-more, joined-some}
use Rattle.lemma_proof.specs.declared.weights.TheConstants.{MAX_ARC_WEIGHT}
use Rattle.lemma_proof.specs.Lines.{IsArc}
use Rattle.lemma_book.specs.Ledger.{deadline}

-- among the arcs are the project's rules and a deadline: the end starts by some time, which is within the limits
record HaveDeadline (p : Problem) (arcs : List Lag) : Type 0 where
  limits : IsProject p
  rules_there : (e : Lag) → Contains (rules p) e → Contains arcs e
  weight : ℤ
  least : neg_ℤ MAX_ARC_WEIGHT ≤ℤ weight
  deadline_there : Contains arcs (arc_of (end_of p) 0 weight)

-- ---- walks to the end and from the start

end_rule : (p : Problem) (i : ℕ) → i < end_of p → Contains (rules p) (end_arc p i)
end_rule p i lt =
    let long = length-map-range_with_len (end_arc p) 0 (end_of p) in
    let here : Contains (map (end_arc p) (range_with_len 0 (end_of p))) (end_arc p i) =
    (i, rw long lt, get_or-map-range_with_len (end_arc p) 0 (end_of p) i i (end_arc p i) lt (omega arith)) in
    Contains-append_right p.lags (implied_arcs p) (end_arc p i)
    (Contains-append_right (map start_arc (range_with_len 1 (end_of p)))
    (map (end_arc p) (range_with_len 0 (end_of p))) (end_arc p i) here)

-- a walk that weighs nothing below 0
record IsLightWalk (arcs : List Lag) (a b : ℕ) : Type 0 where
  walk : List Lag
  goes : IsWalk arcs a walk b
  weighs : pos 0 ≤ℤ weight walk

to_end : (p : Problem) (arcs : List Lag) (a : ℕ) → IsProject p → ((e : Lag) → Contains (rules p) e → Contains arcs e)
    → a < activity_count p → IsLightWalk arcs a (end_of p)
to_end p arcs a is there lt =
    ⊎_elim
    (λ (before : a < end_of p).
    let amount : IsAmount (duration p a) = is.durations_fit a (pos 0) lt in
    let low = amount.at_least in
    record { walk = end_arc p a ∷ []; goes = (there (end_arc p a) (end_rule p a before), refl, refl); weighs = omega (arith, ints) })
    (λ (at : end_of p ≤ a).
    let is_end : a ≡ end_of p = omega arith in
    record { walk = []; goes = is_end; weighs = omega (arith, ints) })
    (cases_lt a (end_of p))

from_start : (p : Problem) (arcs : List Lag) (b : ℕ) → ((e : Lag) → Contains (rules p) e → Contains arcs e) → b < activity_count p → IsLightWalk arcs 0 b
from_start p arcs zero there lt = record { walk = []; goes = refl; weighs = omega (arith, ints) }
from_start p arcs (suc b) there lt = record {
  walk = start_arc (suc b) ∷ [];
  goes = (there (start_arc (suc b)) (start_rule p b lt), refl, refl);
  weighs =
      omega (arith, ints);
}

-- an entry is at least a walk's weight
reached : (n : ℕ) (arcs : List Lag) (rows : Rows) (a b : ℕ) (es : List Lag) → IsMatrixOf n arcs rows → a < n → b < n
    → IsWalk arcs a es b → Reaches (weight es) (entry rows a b)
reached n arcs rows a b es m la lb goes = by_entry (entry rows a b) (m.greatest a b la lb)
  where
    by_entry : (o : Option ℤ) → IsGreatestWeight arcs a b o → Reaches (weight es) o
    by_entry None none = absurd (none es goes)
    by_entry (Some w) g = (w, refl, g.1 es goes)

-- ---- a matrix of arcs with a deadline

full_by_deadline : (p : Problem) (arcs : List Lag) (rows : Rows) → HaveDeadline p arcs → IsMatrixOf (activity_count p) arcs rows → IsFull rows
full_by_deadline p arcs rows have m a b la lb =
    let long : length rows ≡ activity_count p = m.square.0 in
    let low_a : a < activity_count p = rw long at la in
    let low_b : b < activity_count p = rw long at lb in
    let there = to_end p arcs a have.limits have.rules_there low_a in
    let back = from_start p arcs b have.rules_there low_b in
    let arc : Lag = arc_of (end_of p) 0 have.weight in
    let round : List Lag = arc ∷ back.walk in
    let goes : IsWalk arcs a (there.walk ++ arc ∷ back.walk) b =
    IsWalk-append arcs a (end_of p) b there.walk (arc ∷ back.walk) there.goes (have.deadline_there, refl, back.goes)
    in
    let sum = weight-append there.walk (arc ∷ back.walk) in
    let first = there.weighs in
    let last = back.weighs in
    let least = have.least in
    Reaches-weaker (neg_ℤ MAX_WALK_WEIGHT) (weight (there.walk ++ arc ∷ back.walk)) (entry rows a b)
    (omega (arith, ints, sum)) (reached (activity_count p) arcs rows a b (there.walk ++ arc ∷ back.walk) m low_a
    low_b goes)

-- and a deadline fills that of the rules
pub fills_first : (p : Problem) (rows : Rows) (bound : ℤ) → IsProject p
    → IsMatrixOf (activity_count p) (arcs_of p []) rows → IsArc p (deadline p bound) → FillsRows (deadline p bound) rows
fills_first p rows bound is m lag = record {
  light = record { at_least = omega (arith, ints, lag.light.at_least); at_most = omega (arith, ints, lag.light.at_most) };
  full = full;
}
  where
    full : IsFull (rows_over (deadline p bound) rows)
    full a b la lb =
        let long : length rows ≡ activity_count p = m.square.0 in
        let over = length-rows_over (deadline p bound) rows in
        let near_a : a < length rows = rw over at la in
        let near_b : b < length rows = rw over at lb in
        let low_a : a < activity_count p = rw long at near_a in
        let low_b : b < activity_count p = rw long at near_b in
        let two : 2 ≤ activity_count p = is.two_dummies in
        let there_all : (e : Lag) → Contains (rules p) e → Contains (arcs_of p []) e = λ e c. Contains-append_left (rules p) [] e c in
        let there = to_end p (arcs_of p []) a is there_all low_a in
        let back = from_start p (arcs_of p []) b there_all low_b in
        let first = reached (activity_count p) (arcs_of p []) rows a (end_of p) there.walk m low_a (omega arith) there.goes in
        let last = reached (activity_count p) (arcs_of p []) rows 0 b back.walk m (omega arith) low_b back.goes in
        let first_low : weight there.walk ≤ℤ first.0 = first.2 in
        let last_low : weight back.walk ≤ℤ last.0 = last.2 in
        let first_weighs = there.weighs in
        let last_weighs = back.weighs in
        let least = lag.light.at_least in
        let over_is : weight_over (deadline p bound) rows a ≡ Some (first.0 +ℤ (deadline p bound).weight) =
        joined-some first.0 (deadline p bound).weight (entry rows a (end_of p)) (Some (deadline p bound).weight)
        first.1 refl in
        let way : joined (weight_over (deadline p bound) rows a) (entry rows 0 b) ≡ Some
        ((first.0 +ℤ (deadline p bound).weight) +ℤ last.0) =
        joined-some (first.0 +ℤ (deadline p bound).weight) last.0 (weight_over (deadline p bound) rows a)
        (entry rows 0 b) over_is last.1 in
        rw (entry-rows_over (deadline p bound) rows a b near_a near_b)
        (greater-more (neg_ℤ MAX_WALK_WEIGHT) (entry rows a b)
        (joined (weight_over (deadline p bound) rows a) (entry rows 0 b))
        ((first.0 +ℤ (deadline p bound).weight) +ℤ last.0, way, omega (arith, ints)))

-- ---- which arcs have one

deadline_first : (p : Problem) (bound : ℤ) → IsProject p → IsArc p (deadline p bound) → HaveDeadline p (rules p ++ deadline p bound ∷ [])
deadline_first p bound is lag = record {
  limits = is;
  rules_there = λ e c. Contains-append_left (rules p) (deadline p bound ∷ []) e c;
  weight = (deadline p bound).weight;
  least = lag.light.at_least;
  deadline_there = Contains-append_right (rules p) (deadline p bound ∷ []) (deadline p bound) (0, omega arith, refl);
}

-- ---- the root at first

rules_matrix : (p : Problem) (rows : Rows) → IsMatrixOf (activity_count p) (arcs_of p []) rows → IsMatrixOf (length rows) (rules p) rows
rules_matrix p rows m = let long : length rows ≡ activity_count p = m.square.0
    in subst (λ (arcs : List Lag). IsMatrixOf (length rows) arcs rows) (append-nil (rules p)) (rw long m)

pub first_matrix : (p : Problem) (bound : ℤ) (rows new : Rows) → IsMatrixOf (activity_count p) (arcs_of p []) rows
    → AddsArc (deadline p bound) rows new → IsMatrixOf (activity_count p) (rules p ++ deadline p bound ∷ []) new
first_matrix p bound rows new m adds = let long : length rows ≡ activity_count p = m.square.0 in rw long at (adds (rules p) (rules_matrix p rows m))

pub first_full : (p : Problem) (bound : ℤ) (rows new : Rows) → IsProject p
    → IsMatrixOf (activity_count p) (arcs_of p []) rows → IsArc p (deadline p bound)
    → AddsArc (deadline p bound) rows new → IsFull new
first_full p bound rows new is m lag adds =
    full_by_deadline p (rules p ++ deadline p bound ∷ []) new (deadline_first p bound is lag)
    (first_matrix p bound rows new m adds)

-- where the project's own rules close a walk of positive weight, so do they with a deadline
pub first_dead : (p : Problem) (bound : ℤ) (top : ℕ) → IsLeastCycleTop (arcs_of p []) top → HasPositiveCycle (rules p ++ deadline p bound ∷ [])
first_dead p bound top least =
    let found = least.reached in
    let cycle : HasPositiveCycle (rules p) = subst HasPositiveCycle (append-nil (rules p)) (found.0, found.1, found.2) in
    cycle_part (rules p) (rules p ++ deadline p bound ∷ []) (λ e c. Contains-append_left (rules p) (deadline p bound ∷ []) e c) cycle

-- and where the deadline does
pub deadline_dead : (p : Problem) (bound : ℤ) (rows : Rows) → IsMatrixOf (activity_count p) (arcs_of p []) rows
    → ClosesCycle (deadline p bound) rows → HasPositiveCycle (rules p ++ deadline p bound ∷ [])
deadline_dead p bound rows m closes = let found = closes (rules p) (rules_matrix p rows m) in (end_of p, found.0, found.1)
