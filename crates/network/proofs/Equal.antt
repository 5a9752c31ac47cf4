-- Equality holds of equal projects alone.
use Rattle.std.proofs.Common.{◌≡◌, refl, ap, ◌∙◌, ℕ, Bool, true, ◌&&◌, ℤ, List, [], ◌∷◌, map, arith, ◌==◌}
use Rattle.std.specs.Ordering.{int_eq}
use Rattle.std.specs.Cmp.Lexicographic.{pointwise}
use Rattle.std.proofs.lemmas.Bool.{and_parts, eqb-true}
use Rattle.std.proofs.lemmas.Int.{ints}
use Rattle.network.specs.Problem.{Problem, Lag}
use Rattle.network.specs.Equality.{lag_eq, problem_eq}

pub pointwise_map : {X Y : Type 0} (E : X → X → Bool) (f : Y → X) (xs ys : List Y) → pointwise E (map f xs) (map f ys) ≡ pointwise (λ x y. E (f x) (f y)) xs ys
pointwise_map E f [] [] = refl
pointwise_map E f [] (y ∷ ys) = refl
pointwise_map E f (x ∷ xs) [] = refl
pointwise_map E f (x ∷ xs) (y ∷ ys) = ap (λ b. E (f x) (f y) && b) (pointwise_map E f xs ys)

int_eq-true : (x y : ℤ) → int_eq x y ≡ true → x ≡ y
int_eq-true x y e = grind (arith, ints)

lists_same : {X : Type 0} (E : X → X → Bool) → ((x y : X) → E x y ≡ true → x ≡ y) → (xs ys : List X) → pointwise E xs ys ≡ true → xs ≡ ys
lists_same E h [] [] e = refl
lists_same E h [] (y ∷ ys) e = cc
lists_same E h (x ∷ xs) [] e = cc
lists_same E h (x ∷ xs) (y ∷ ys) e =
    let both = and_parts (E x y) (pointwise E xs ys) e in
    let one : x ≡ y = h x y both.0 in
    let others : xs ≡ ys = lists_same E h xs ys both.1 in
    cc

abbrev lag : ℕ → ℕ → ℤ → Lag
lag f u w = record { from = f; to = u; weight = w }

abbrev problem : List ℤ → List (List ℤ) → List ℤ → List Lag → Problem
problem d r c l = record { durations = d; demands = r; capacities = c; lags = l }

lag_same : (a b : Lag) → lag_eq a b ≡ true → a ≡ b
lag_same a b e =
    let p = and_parts (a.from == b.from) (a.to == b.to && int_eq a.weight b.weight) e in
    let q = and_parts (a.to == b.to) (int_eq a.weight b.weight) p.1 in
    let from : a.from ≡ b.from = eqb-true a.from b.from p.0 in
    let to : a.to ≡ b.to = eqb-true a.to b.to q.0 in
    let weight : a.weight ≡ b.weight = int_eq-true a.weight b.weight q.1 in
    ap (λ v. lag v a.to a.weight) from ∙ ap (λ v. lag b.from v a.weight) to ∙ ap (λ v. lag b.from b.to v) weight

-- projects that compare as equal have the same lists
pub problem_eq-true : (p q : Problem) → problem_eq p q ≡ true → p ≡ q
problem_eq-true p q e =
    let a = and_parts (pointwise int_eq p.durations q.durations) _ e in
    let b = and_parts (pointwise (pointwise int_eq) p.demands q.demands) _ a.1 in
    let c = and_parts (pointwise int_eq p.capacities q.capacities) _ b.1 in
    let durations : p.durations ≡ q.durations = lists_same int_eq int_eq-true p.durations q.durations a.0 in
    let demands : p.demands ≡ q.demands = lists_same (pointwise int_eq) (lists_same int_eq int_eq-true) p.demands q.demands b.0 in
    let capacities : p.capacities ≡ q.capacities = lists_same int_eq int_eq-true p.capacities q.capacities c.0 in
    let lags : p.lags ≡ q.lags = lists_same lag_eq lag_same p.lags q.lags c.1 in
    ap (λ v. problem v p.demands p.capacities p.lags) durations
    ∙ ap (λ v. problem q.durations v p.capacities p.lags) demands
    ∙ ap (λ v. problem q.durations q.demands v p.lags) capacities
    ∙ ap (λ v. problem q.durations q.demands q.capacities v) lags
