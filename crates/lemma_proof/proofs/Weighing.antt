-- Sums of weights of walks and of a reverse are small, and what an entry says of an arc.
use Rattle.std.proofs.Common.{◌≡◌, refl, subst, ℕ, ◌<◌, arith, ℤ, ◌+ℤ◌, ◌≤ℤ◌, ◌<ℤ◌, List, [], ◌∷◌, ◌++◌, length, Option, None, Some, w64, FitsSigned, ◌↔◌}
use Rattle.std.proofs.Common.{IsTrue}
use Rattle.std.specs.Int.Signed.{le_z, lt_z}
use Rattle.std.proofs.lemmas.Int.{ints, by_lt_z}
use Rattle.network.specs.declared.parts.Lag.{Lag}
use Rattle.network.specs.declared.limits.TheConstants.{MAX_WALK_WEIGHT}
use Rattle.network.specs.Problem.{IsWithin}
use Rattle.network.specs.Walk.{Rows, entry, weight, IsGreatestWeight, IsMatrixOf}
use Rattle.longest_path.specs.Insert.{rows_over, ClosesNone}
use Rattle.longest_path.proofs.Inserted.{length-rows_over, AddsArc-rows_over}
use Rattle.lemma_proof.specs.declared.weights.TheConstants.{MAX_REVERSE_WEIGHT, MAX_WAY_WEIGHT}
use Rattle.lemma_proof.specs.Reasons.{Implies, rows_with, reverse_of}
use Rattle.std.specs.List.{Contains}
use Rattle.network.specs.Schedule.{start, Meets}
use Rattle.network.proofs.Schedules.{walk_holds}

-- a walk, a reverse and a walk
pub way_small : (x w y : ℤ) → IsWithin MAX_WALK_WEIGHT x → IsWithin MAX_REVERSE_WEIGHT w → IsWithin MAX_WALK_WEIGHT y → IsWithin MAX_WAY_WEIGHT ((x +ℤ w) +ℤ y)
way_small x w y p q r =
    record { at_most = omega (arith, ints); at_least = omega (arith, ints) }

pub part_fits : (x w : ℤ) → IsWithin MAX_WALK_WEIGHT x → IsWithin MAX_REVERSE_WEIGHT w → FitsSigned w64 (x +ℤ w)
part_fits x w p q =
    omega (arith, ints)

pub way_fits : (z : ℤ) → IsWithin MAX_WAY_WEIGHT z → FitsSigned w64 z
way_fits z p =
    omega (arith, ints)

pub length-rows_with : (o : Option Lag) (rows : Rows) → length (rows_with o rows) ≡ length rows
length-rows_with None rows = refl
length-rows_with (Some e) rows = length-rows_over e rows

-- ---- what an entry says

pub le_test : (x y : ℤ) → IsTrue (le_z x y) → x ≤ℤ y
le_test x y h = grind (arith, ints)

pub test_le : (x y : ℤ) → x ≤ℤ y → IsTrue (le_z x y)
test_le x y h = grind (arith, ints)

pub lt_test : (x y : ℤ) → IsTrue (lt_z x y) → x <ℤ y
lt_test x y h = grind (arith, ints)

pub test_lt : (x y : ℤ) → x <ℤ y → IsTrue (lt_z x y)
test_lt x y h = grind (arith, ints)

-- the arcs imply what is at most the entry
pub implied_by : (n : ℕ) (arcs : List Lag) (rows : Rows) (e : Lag) (w : ℤ) → IsMatrixOf n arcs rows → e.from < n
    → e.to < n → entry rows e.from e.to ≡ Some w → IsTrue (le_z e.weight w) ↔ Implies arcs e
implied_by n arcs rows e w m from to is =
    let at : IsGreatestWeight arcs e.from e.to (Some w) = rw is at (m.greatest e.from e.to from to) in (
      λ test.
          let low : e.weight ≤ℤ w = le_test e.weight w test in
          record { walk = at.0.0; goes = at.0.1; weighs = omega (arith, ints) },
      λ (implied : Implies arcs e).
          let most : weight implied.walk ≤ℤ w = at.1 implied.walk implied.goes in
          test_le e.weight w (omega (arith, ints)),
    )

pub not_implied : (n : ℕ) (arcs : List Lag) (rows : Rows) (e : Lag) → IsMatrixOf n arcs rows → e.from < n → e.to < n
    → entry rows e.from e.to ≡ None → ¬ Implies arcs e
not_implied n arcs rows e m from to is implied =
    let at : IsGreatestWeight arcs e.from e.to None = rw is at (m.greatest e.from e.to from to) in
    at implied.walk implied.goes

-- ---- the reverse of an arc

-- where the arc isn't implied, its reverse closes no walk of positive weight
closes_none : (n : ℕ) (arcs : List Lag) (rows : Rows) (e : Lag) → IsMatrixOf n arcs rows → e.from < n → e.to < n
    → ¬ Implies arcs e → ClosesNone (reverse_of e) rows
closes_none n arcs rows e m from to never = λ x is.
    let at : IsGreatestWeight arcs e.from e.to (Some x) = rw is at (m.greatest e.from e.to from to) in
    by_lt_z x e.weight
    (λ less. omega (arith, ints))
    (λ reached.
    absurd (never (record { walk = at.0.0; goes = at.0.1; weighs = omega (arith, ints) })))

-- so the rows over it are the matrix of the arcs with the reverse
pub reversed : (n : ℕ) (arcs : List Lag) (rows : Rows) (e : Lag) → length rows ≡ n → IsMatrixOf n arcs rows → e.from < n
    → e.to < n → ¬ Implies arcs e → IsMatrixOf n (arcs ++ reverse_of e ∷ []) (rows_over (reverse_of e) rows)
reversed n arcs rows e long m from to never =
    let here : IsMatrixOf (length rows) arcs rows = rw long m in
    let over = AddsArc-rows_over (reverse_of e) rows (rw long to) (rw long from) (closes_none n arcs rows e m from to never) arcs here in
    subst (λ (k : ℕ). IsMatrixOf k (arcs ++ reverse_of e ∷ []) (rows_over (reverse_of e) rows)) long over

-- ---- A list of starts that meets the arcs of a block meets each arc that they imply.

-- the list of starts meets all these arcs
abbrev pub MeetsAll : List ℤ → List Lag → Type 0
MeetsAll s arcs = (e : Lag) → Contains arcs e → Meets s e

pub implied_met : (arcs : List Lag) (s : List ℤ) → MeetsAll s arcs → (e : Lag) → Implies arcs e → Meets s e
implied_met arcs s met e implied =
    let h : (start s e.from +ℤ weight implied.walk) ≤ℤ start s e.to = walk_holds arcs s met e.from e.to implied.walk implied.goes in
    omega (arith, ints)
