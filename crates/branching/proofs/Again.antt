-- The matrix of a project and pairs when a pair is added again.
use Rattle.std.proofs.Common.{◌≡◌, refl, subst, ℕ, ◌<◌, arith, ℤ, pos, ◌≤ℤ◌, Option, None, Some, ⊎_elim, List, [], ◌∷◌, ◌++◌, map, length, get_or}
use Rattle.std.proofs.lemmas.Int.{ints}
use Rattle.std.specs.List.{Contains}
use Rattle.std.proofs.lemmas.List.Elements.{All-nil, All-cons, All-push, All-contains, All-get_or, Contains-append_left, Contains-append_right}
use Rattle.std.proofs.lemmas.List.Elements.{Contains-append_cases, Contains-push_cases}
use Rattle.network.specs.declared.parts.Lag.{Lag}
use Rattle.network.specs.declared.parts.Pair.{Pair}
use Rattle.network.specs.Problem.{Problem, activity_count, pair_arc, rules, arcs_of, NameActivities}
use Rattle.network.specs.Walk.{Rows, IsWalk, weight, entry, IsGreatestWeight, IsMatrixOf, IsProjectMatrix}
use Rattle.network.proofs.FaultLaws.{mapped_list}
use Rattle.longest_path.specs.Insert.{ClosesNone}
use Rattle.branching.proofs.OrderedPairs.{contains_map}

abbrev IsAmong : List Lag → List Lag → Type 0
IsAmong arcs others = (e : Lag) → Contains arcs e → Contains others e

walk_among : (arcs others : List Lag) (a b : ℕ) (es : List Lag) → IsAmong arcs others → IsWalk arcs a es b → IsWalk others a es b
walk_among arcs others a b [] among w = w
walk_among arcs others a b (e ∷ es) among w = (among e w.0, w.1, walk_among arcs others e.to b es among w.2)

greatest_same : (arcs others : List Lag) (a b : ℕ) (o : Option ℤ) → IsAmong arcs others → IsAmong others arcs
    → IsGreatestWeight arcs a b o → IsGreatestWeight others a b o
greatest_same arcs others a b None to from none = λ es w. none es (walk_among others arcs a b es from w)
greatest_same arcs others a b (Some x) to from g = (
  (g.0.0, walk_among arcs others a b g.0.0 to g.0.1, g.0.2),
  λ es w. g.1 es (walk_among others arcs a b es from w),
)

matrix_same : (n : ℕ) (arcs others : List Lag) (rows : Rows) → IsAmong arcs others → IsAmong others arcs → IsMatrixOf n arcs rows → IsMatrixOf n others rows
matrix_same n arcs others rows to from m = record {
  inside = λ e c. m.inside e (from e c);
  square = m.square;
  no_cycle = λ a es w. m.no_cycle a es (walk_among others arcs a a es from w);
  greatest = λ a b la lb. greatest_same arcs others a b (entry rows a b) to from (m.greatest a b la lb);
}

abbrev AreAmong : List Pair → List Pair → Type 0
AreAmong pairs others = (q : Pair) → Contains pairs q → Contains others q

arcs_among : (p : Problem) (pairs others : List Pair) → AreAmong pairs others → IsAmong (arcs_of p pairs) (arcs_of p others)
arcs_among p pairs others among e c =
    ⊎_elim
    (λ (rule : Contains (rules p) e). Contains-append_left (rules p) (map (pair_arc p) others) e rule)
    (λ (arc : Contains (map (pair_arc p) pairs) e).
    let m = mapped_list (pair_arc p) e pairs arc.0 arc.1 arc.2 in
    Contains-append_right (rules p) (map (pair_arc p) others) e (rw m.2 (contains_map (pair_arc p) others m.0 (among m.0 m.1))))
    (Contains-append_cases (rules p) (map (pair_arc p) pairs) e c)

abbrev AreThere : Problem → Pair → Type 0
AreThere p q = (q.before < activity_count p) × (q.after < activity_count p)

pub named_one : (p : Problem) (pairs : List Pair) (i : ℕ) (d : Pair) → i < length pairs → NameActivities p pairs → NameActivities p (get_or pairs i d ∷ [])
named_one p pairs i d low named = All-cons (AreThere p) (get_or pairs i d) [] (All-get_or (AreThere p) pairs i d low named) (All-nil (AreThere p))

-- a pair that is added again changes nothing
pub again : (p : Problem) (pairs : List Pair) (pair : Pair) (rows : Rows) → Contains pairs pair
    → IsProjectMatrix p pairs rows → IsProjectMatrix p (pairs ++ pair ∷ []) rows
again p pairs pair rows at m =
    let more : AreAmong pairs (pairs ++ pair ∷ []) = λ q c. Contains-append_left pairs (pair ∷ []) q c in
    let fewer : AreAmong (pairs ++ pair ∷ []) pairs = λ q c.
    ⊎_elim
    (λ (early : Contains pairs q). early)
    (λ (last : pair ≡ q). subst (λ (z : Pair). Contains pairs z) last at)
    (Contains-push_cases pairs pair q c) in
    record {
      limits = m.limits;
      named = All-push (AreThere p) pairs pair m.named (All-contains (AreThere p) pairs pair m.named at);
      matrix = matrix_same (activity_count p) (arcs_of p pairs) (arcs_of p (pairs ++ pair ∷ [])) rows
          (arcs_among p pairs (pairs ++ pair ∷ []) more) (arcs_among p (pairs ++ pair ∷ []) pairs fewer) m.matrix;
    }

-- and closes nothing
pub closes_none_again : (p : Problem) (pairs : List Pair) (pair : Pair) (rows : Rows) → Contains pairs pair
    → IsProjectMatrix p pairs rows → ClosesNone (pair_arc p pair) rows
closes_none_again p pairs pair rows at m x e =
    let there : AreThere p pair = All-contains (AreThere p) pairs pair m.named at in
    let back : IsGreatestWeight (arcs_of p pairs) pair.after pair.before (Some x) = rw e at (m.matrix.greatest pair.after pair.before there.1 there.0) in
    let arc : Contains (arcs_of p pairs) (pair_arc p pair) =
    Contains-append_right (rules p) (map (pair_arc p) pairs) (pair_arc p pair)
    (contains_map (pair_arc p) pairs pair at) in
    let low : weight (pair_arc p pair ∷ back.0.0) ≤ℤ pos 0 = m.matrix.no_cycle pair.before (pair_arc p pair ∷ back.0.0) (arc, refl, back.0.1) in
    let weighs : weight back.0.0 ≡ x = back.0.2 in
    omega (arith, ints)
