-- The matrix of arcs of which no closed walk is positive.
use Rattle.std.proofs.Common.{◌≡◌, refl, sym, ap, subst, ℕ, ◌<◌, arith, pos, ◌≤ℤ◌, List, [], ◌∷◌, ◌++◌, length, Some, append_assoc, ◌∙◌, neg_ℤ, take, drop}
use Rattle.std.proofs.Common.{get_or, ◌+◌}
use Rattle.std.specs.List.{Contains}
use Rattle.std.proofs.lemmas.Int.{ints}
use Rattle.std.proofs.lemmas.List.{take_more, take-append-drop}
use Rattle.std.proofs.lemmas.List.Elements.{Contains-append_left, Contains-append_right}
use Rattle.network.specs.declared.parts.Lag.{Lag}
use Rattle.network.specs.Walk.{IsWalk, weight, IsMatrixOf, IsGreatestWeight, HasPositiveCycle, HasNoPositiveCycle, Rows}
use Rattle.network.proofs.Walks.{IsWalk-append, weight-append}
use Rattle.longest_path.specs.Insert.{rows_over, ClosesNone}
use Rattle.longest_path.proofs.Inserted.{length-rows_over, AddsArc-rows_over}
use Rattle.longest_path.specs.Matrix.{IsFull}
use Rattle.longest_path.proofs.OneArc.{IsGreatest-matrix}
use Rattle.network.specs.declared.limits.TheConstants.{MAX_WALK_WEIGHT}
use Rattle.lemma_proof.proofs.Implying.{IsPartOf, IsWalk-part, part_after}

-- one arc more, by which no closed walk is positive
pub closes_none : (n : ℕ) (own : List Lag) (rows : Rows) (e : Lag) (all : List Lag) → IsMatrixOf n own rows → e.from < n
    → e.to < n → IsPartOf own all → Contains all e → HasNoPositiveCycle all → ClosesNone e rows
closes_none n own rows e all m from to part there none = λ x is.
    let at : IsGreatestWeight own e.to e.from (Some x) = rw is at (m.greatest e.to e.from to from) in
    let goes : IsWalk all e.to (at.0.0 ++ e ∷ []) e.to =
    IsWalk-append all e.to e.from e.to at.0.0 (e ∷ []) (IsWalk-part own all e.to e.from at.0.0 part at.0.1)
    (there, refl, refl) in
    let low : weight (at.0.0 ++ e ∷ []) ≤ℤ pos 0 = none e.to (at.0.0 ++ e ∷ []) goes in
    let is_x : weight at.0.0 ≡ x = at.0.2 in
    omega (arith, ints, weight-append at.0.0 (e ∷ []))

pub nil_right : (own : List Lag) → own ++ [] ≡ own
nil_right [] = refl
nil_right (e ∷ own) = ap (λ t. e ∷ t) (nil_right own)

pub matrix_there : (n : ℕ) (own more : List Lag) (rows : Rows) → length rows ≡ n → IsMatrixOf n own rows
    → ((e : Lag) → Contains more e → (e.from < n) × (e.to < n)) → HasNoPositiveCycle (own ++ more) →
    (all : Rows) × IsMatrixOf n (own ++ more) all × (length all ≡ n)
matrix_there n own [] rows long m inside none = (rows, rw nil_right m, long)
matrix_there n own (e ∷ more) rows long m inside none =
    let first : Contains (e ∷ more) e = (0, omega arith, refl) in
    let ends = inside e first in
    let closes = closes_none n own rows e (own ++ e ∷ more) m ends.0 ends.1
    (λ f c. Contains-append_left own (e ∷ more) f c) (Contains-append_right own (e ∷ more) e first) none in
    let here : IsMatrixOf (length rows) own rows = rw long m in
    let with : IsMatrixOf (length rows) (own ++ e ∷ []) (rows_over e rows) = AddsArc-rows_over e rows (rw long ends.0) (rw long ends.1) closes own here in
    let with_n : IsMatrixOf n (own ++ e ∷ []) (rows_over e rows) = subst (λ (k : ℕ). IsMatrixOf k (own ++ e ∷ []) (rows_over e rows)) long with in
    let joined : (own ++ e ∷ []) ++ more ≡ own ++ e ∷ more = append_assoc own (e ∷ []) more in
    let none_there : HasNoPositiveCycle ((own ++ e ∷ []) ++ more) = subst HasNoPositiveCycle (sym joined) none in
    let rest = matrix_there n (own ++ e ∷ []) more (rows_over e rows) (length-rows_over e rows ∙ long) with_n
    (λ f c. inside f (Contains-append_right (e ∷ []) more f c)) none_there in
    (rest.0, subst (λ (arcs : List Lag). IsMatrixOf n arcs rest.0) joined rest.1, rest.2)

-- ---- a matrix of more arcs

-- is full where that of fewer is
pub full_more : (n : ℕ) (own more : List Lag) (rows with : Rows) → length rows ≡ n → length with ≡ n
    → IsMatrixOf n own rows → IsFull rows → IsMatrixOf n (own ++ more) with → IsFull with
full_more n own more rows with long wide m full all a b la lb =
    let low_a : a < n = rw wide at la in
    let low_b : b < n = rw wide at lb in
    let old = full a b (rw long low_a) (rw long low_b) in
    let at : IsGreatestWeight own a b (Some old.0) = rw old.1 at (m.greatest a b low_a low_b) in
    let goes : IsWalk (own ++ more) a at.0.0 b = IsWalk-part own (own ++ more) a b at.0.0 (λ f c. Contains-append_left own more f c) at.0.1 in
    let there = (IsGreatest-matrix n (own ++ more) with all).covered a b at.0.0 low_a low_b goes in
    let le : weight at.0.0 ≤ℤ there.0 = there.2 in
    let is : weight at.0.0 ≡ old.0 = at.0.2 in
    let least : neg_ℤ MAX_WALK_WEIGHT ≤ℤ old.0 = old.2 in
    (there.0, there.1, omega (arith, ints))

-- a closed walk is one of more arcs, too
pub cycle_part : (arcs others : List Lag) → IsPartOf arcs others → HasPositiveCycle arcs → HasPositiveCycle others
cycle_part arcs others part cycle = (
  cycle.0,
  cycle.1,
  record {
    closed = IsWalk-part arcs others cycle.0 cycle.0 cycle.1 part cycle.2.closed;
    positive =
        cycle.2.positive;
  },
)

-- ---- the first arcs of a list

pub taken_more : (own arcs : List Lag) (i : ℕ) (d : Lag) → i < length arcs → (own ++ take i arcs) ++ get_or arcs i d ∷ [] ≡ own ++ take (i + 1) arcs
taken_more own arcs i d lt = append_assoc own (take i arcs) (get_or arcs i d ∷ []) ∙ ap (λ t. own ++ t) (sym (take_more arcs i d lt))

pub taken_part : (own arcs : List Lag) (k : ℕ) → IsPartOf (own ++ take k arcs) (own ++ arcs)
taken_part own arcs k = subst (λ (t : List Lag). IsPartOf (own ++ take k arcs) (own ++ t)) (take-append-drop k arcs)
    (part_after own (take k arcs) (drop k arcs))
