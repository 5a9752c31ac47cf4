-- Laws of what arcs imply.
use Rattle.std.proofs.Common.{◌≡◌, refl, ℕ, ◌<◌, inl, inr, arith, ℤ, ◌+ℤ◌, ◌≤ℤ◌, List, [], ◌∷◌, ◌++◌, Some}
use Rattle.std.specs.List.{Contains}
use Rattle.std.proofs.lemmas.Int.{ints}
use Rattle.std.proofs.lemmas.List.Elements.{Contains-append_left, Contains-append_right, Contains-append_cases}
use Rattle.network.specs.declared.parts.Lag.{Lag}
use Rattle.network.specs.Walk.{IsWalk, weight, IsMatrixOf, IsGreatestWeight, Rows, entry}
use Rattle.network.proofs.Walks.{IsWalk-append, weight-append}
use Rattle.longest_path.specs.Insert.{arc_of}
use Rattle.lemma_proof.specs.Implied.{Implies}

-- each arc of one list is in the other
abbrev pub IsPartOf : List Lag → List Lag → Type 0
IsPartOf arcs others = (e : Lag) → Contains arcs e → Contains others e

pub IsWalk-part : (arcs others : List Lag) (a b : ℕ) (es : List Lag) → IsPartOf arcs others → IsWalk arcs a es b → IsWalk others a es b
IsWalk-part arcs others a b [] part w = w
IsWalk-part arcs others a b (e ∷ es) part w = (part e w.0, w.1, IsWalk-part arcs others e.to b es part w.2)

pub implied_part : (arcs others : List Lag) (e : Lag) → IsPartOf arcs others → Implies arcs e → Implies others e
implied_part arcs others e part i = record { walk = i.walk; goes = IsWalk-part arcs others e.from e.to i.walk part i.goes; weighs = i.weighs }

-- more arcs before the last ones
pub part_after : (own more last : List Lag) → IsPartOf (own ++ more) (own ++ (more ++ last))
part_after own more last e c = elim (Contains-append_cases own more e c) [
  | inl first ↦ Contains-append_left own (more ++ last) e first
  | inr second ↦ Contains-append_right own (more ++ last) e (Contains-append_left more last e second)
]

pub implied_lower : (arcs : List Lag) (a b : ℕ) (v w : ℤ) → v ≤ℤ w → Implies arcs (arc_of a b w) → Implies arcs (arc_of a b v)
implied_lower arcs a b v w le i = let h : w ≤ℤ weight i.walk = i.weighs in record { walk = i.walk; goes = i.goes; weighs = omega (arith, ints) }

pub implied_joined : (arcs : List Lag) (a b c : ℕ) (x y : ℤ) → Implies arcs (arc_of a b x) → Implies arcs (arc_of b c y) → Implies arcs (arc_of a c (x +ℤ y))
implied_joined arcs a b c x y i j =
    let first : x ≤ℤ weight i.walk = i.weighs in
    let last : y ≤ℤ weight j.walk = j.weighs in
    let sum = weight-append i.walk j.walk in
    record { walk = i.walk ++ j.walk; goes = IsWalk-append arcs a b c i.walk j.walk i.goes j.goes; weighs = omega (arith, ints, sum) }

pub implied_arc : (arcs : List Lag) (e : Lag) → Contains arcs e → Implies arcs e
implied_arc arcs e c = record { walk = e ∷ []; goes = (c, refl, refl); weighs = omega (arith, ints) }

pub implied_entry : (n : ℕ) (arcs : List Lag) (rows : Rows) (a b : ℕ) (w : ℤ) → IsMatrixOf n arcs rows → a < n → b < n
    → entry rows a b ≡ Some w → Implies arcs (arc_of a b w)
implied_entry n arcs rows a b w m la lb is =
    let at : IsGreatestWeight arcs a b (Some w) = rw is at (m.greatest a b la lb) in
    let sum : weight at.0.0 ≡ w = at.0.2 in
    record { walk = at.0.0; goes = at.0.1; weighs = omega (arith, ints) }
