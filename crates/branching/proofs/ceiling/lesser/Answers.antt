use Rattle.std.proofs.Common.{◌≡◌, rules, ℤ, ◌≤ℤ◌, ◌<ℤ◌, List, ◌++◌, Some, arith, w64, SFits}
use Rattle.std.proofs.lemmas.Int.{ints, to_z-of_z, by_lt_z}
use Rattle.std.specs.Int.{int_min}
use Rattle.std.proofs.lemmas.List.Elements.{All-append, All-weaker, Contains-append_left, Contains-append_right}
use Rattle.branching.specs.Right.{IsLeast}
use Rattle.branching.proofs.ceiling.lesser.Goals as goal

min_is_first : (a b : ℤ) → a <ℤ b → int_min a b ≡ a
min_is_first a b less = grind (arith, ints)

min_is_second : (a b : ℤ) → b ≤ℤ a → int_min a b ≡ b
min_is_second a b more = grind (arith, ints)

least_of_both : (xs ys : List ℤ) (a b : ℤ) → IsLeast xs (Some a) → IsLeast ys (Some b) → IsLeast (xs ++ ys) (Some (int_min a b))
least_of_both xs ys a b f g =
    by_lt_z a b
    (λ less. let is : int_min a b ≡ a = min_is_first a b less in
    rw is (Contains-append_left xs ys a f.0, All-append (λ n. a ≤ℤ n) xs ys f.1 (All-weaker (λ n. b ≤ℤ n) (λ n. a ≤ℤ n) (λ n h. omega (arith, ints)) ys g.1)))
    (λ more. let is : int_min a b ≡ b = min_is_second a b more in
    rw is (Contains-append_right xs ys b g.0, All-append (λ n. b ≤ℤ n) xs ys (All-weaker (λ n. a ≤ℤ n) (λ n. b ≤ℤ n) (λ n h. omega (arith, ints)) xs f.1) g.1))

pub returns-in-Some-Some : goal.returns-in-Some-Some
returns-in-Some-Some c = λ xs ys f g.
    let left_fits : SFits w64 c.in-Some-Some.left = search rules in
    let right_fits : SFits w64 c.in-Some-Some.right = search rules in
    let least_fits : SFits w64 c.min.result = search rules in
    let value : c.min.result ≡ int_min c.in-Some-Some.left c.in-Some-Some.right = simp to_z-of_z at c.min.ensures.value in
    simp to_z-of_z (rw value (least_of_both xs ys c.in-Some-Some.left c.in-Some-Some.right (rw c.in-Some-Some.is-0 at f) (rw c.in-Some-Some.is-1 at g)))
