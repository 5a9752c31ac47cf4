-- What a node's matrix says: of the schedules that keep its pairs, and of one pair more.
use Rattle.std.proofs.Common.{◌≡◌, refl, sym, ap, subst, ◌-◌, ◌<◌, ◌≤◌, arith, ℤ, pos, ◌+ℤ◌, ◌≤ℤ◌, ◌<ℤ◌, List, [], ◌∷◌, ◌++◌, length, Option, None, Some, true}
use Rattle.std.proofs.Common.{false, ◌∙◌, IfSome, FitsSigned, int_lt, if◌then◌else◌}
use Rattle.std.specs.Option.{unwrap_or}
use Rattle.std.specs.Int.{w64}
use Rattle.std.specs.Int.Signed.{lt_z}
use Rattle.std.proofs.lemmas.Int.{ints}
use Rattle.std.proofs.lemmas.List.Elements.{All-nil, All-cons, All-head}
use Rattle.network.specs.declared.parts.Lag.{Lag}
use Rattle.network.specs.declared.parts.Pair.{Pair}
use Rattle.network.specs.Problem.{Problem, activity_count, end_of, duration, pair_arc, arcs_of, NameActivities, IsProject, IsAmount, IsWithin}
use Rattle.network.specs.Walk.{IsProjectMatrix, Rows, entry, IsMatrixOf, HasPositiveCycle}
use Rattle.network.specs.declared.limits.TheConstants.{MAX_WALK_WEIGHT}
use Rattle.longest_path.specs.declared.insert.TheConstants.{MAX_WAY_WITH}
use Rattle.network.proofs.Schedules.{arcs_of-push}
use Rattle.longest_path.specs.Insert.{entry_over, rows_over, ClosesNone}
use Rattle.longest_path.specs.Matrix.{greater, joined}
use Rattle.longest_path.proofs.Inserted.{length-rows_over, entry-rows_over, closes}
use Rattle.longest_path.proofs.Reach.{joined-some, same_some}
use Rattle.longest_path.proofs.Ends.{from_start, to_end, reached}
use Rattle.bounds.specs.Bound.{critical_weight, IsBoundOf, IsTrueBoundFor}
use Rattle.bounds.proofs.WithLaws.{matrix_more}
use Rattle.branching.specs.Right.{IsLeast}
use Rattle.branching.specs.Fair.{IsRootOf}
use Rattle.branching.specs.Subproblem.{Subproblem, IsNode, IsTiedTo}

-- both activities of the pair are there
pub ends_of : (p : Problem) (pair : Pair) → NameActivities p (pair ∷ []) → (pair.before < activity_count p) × (pair.after < activity_count p)
ends_of p pair named = All-head (λ (q : Pair). (q.before < activity_count p) × (q.after < activity_count p)) pair [] named

-- a way back that is too long for the pair's first activity closes a positive walk
pub closes_over : (p : Problem) (pairs : List Pair) (pair : Pair) (rows : Rows) (back : ℤ)
    → NameActivities p (pair ∷ []) → IsMatrixOf (activity_count p) (arcs_of p pairs) rows
    → entry rows pair.after pair.before ≡ Some back → pos 0 <ℤ (back +ℤ duration p pair.before) →
    HasPositiveCycle (arcs_of p (pairs ++ pair ∷ []))
closes_over p pairs pair rows back named m e positive =
    let ends = ends_of p pair named in
    let way = joined-some back (duration p pair.before) (entry rows pair.after pair.before) (Some (duration p pair.before)) e refl in
    let found = closes (activity_count p) (pair_arc p pair) rows ends.0 ends.1 (back +ℤ duration p pair.before, way, positive) (arcs_of p pairs) m in
    rw (arcs_of-push p pairs pair) (pair.before, found.0, found.1)

-- the way over an arc weighs at most the greater of it and another
way_at_most : (other first last : Option ℤ) (d head rest : ℤ) → first ≡ Some head → last ≡ Some rest →
    ((unwrap_or first (pos 0) +ℤ d) +ℤ unwrap_or last (pos 0)) ≤ℤ unwrap_or (greater other (joined (joined first (Some d)) last)) (pos 0)
way_at_most other None last d head rest e f = cc
way_at_most other (Some x) None d head rest e f = cc
way_at_most None (Some x) (Some y) d head rest e f = omega (arith, ints)
way_at_most (Some z) (Some x) (Some y) d head rest e f = by_lt z ((x +ℤ d) +ℤ y)
  where
    by_lt : (z w : ℤ) → w ≤ℤ (if int_lt z w then w else z)
    by_lt z w = grind (arith, ints)

-- the way to the pair, its first activity, and the way from it weigh at most the critical weight with the pair
pub least_with_critical : (p : Problem) (pairs : List Pair) (pair : Pair) (rows : Rows) → IsProjectMatrix p pairs rows → NameActivities p (pair ∷ []) →
    ((unwrap_or (entry rows 0 pair.before) (pos 0) +ℤ duration p pair.before) +ℤ unwrap_or
    (entry rows pair.after (end_of p)) (pos 0)) ≤ℤ critical_weight (rows_over (pair_arc p pair) rows)
least_with_critical p pairs pair rows m named =
    let ends = ends_of p pair named in
    let two : 2 ≤ activity_count p = m.limits.two_dummies in
    let size : length rows ≡ activity_count p = m.matrix.square.0 in
    let first : 0 < activity_count p = omega arith in
    let last : end_of p < activity_count p = omega arith in
    let e : Lag = pair_arc p pair in
    let head = reached (arcs_of p pairs) 0 pair.before (entry rows 0 pair.before) (pos 0)
    (m.matrix.greatest 0 pair.before first ends.0) (from_start p pairs pair.before ends.0) in
    let rest = reached (arcs_of p pairs) pair.after (end_of p) (entry rows pair.after (end_of p))
    (duration p pair.after) (m.matrix.greatest pair.after (end_of p) ends.1 last)
    (to_end p pairs pair.after m.limits ends.1) in
    let whole : critical_weight (rows_over e rows) ≡ unwrap_or (entry_over e rows 0 (end_of p)) (pos 0) =
    ap (λ n. unwrap_or (entry (rows_over e rows) 0 (n - 1)) (pos 0)) (length-rows_over e rows ∙ size)
    ∙ ap (λ (o : Option ℤ). unwrap_or o (pos 0)) (entry-rows_over e rows 0 (end_of p) (omega arith) (omega arith))
    in
    rw whole (way_at_most (entry rows 0 (end_of p)) (entry rows 0 pair.before) (entry rows pair.after (end_of p))
    (duration p pair.before) head.value rest.value head.is rest.is)

-- both activities of the pair have a row and a column
pub rows_of : (p : Problem) (pairs : List Pair) (rows : Rows) (pair : Pair) → IsProjectMatrix p pairs rows
    → NameActivities p (pair ∷ []) → (pair.before < length rows) × (pair.after < length rows)
rows_of p pairs rows pair m named =
    let ends = ends_of p pair named in
    let long : length rows ≡ activity_count p = m.matrix.square.0 in
    rw long ends

pub weight_within : (o : Option ℤ) → IfSome o (λ w. IsWithin MAX_WALK_WEIGHT w) → IsWithin MAX_WALK_WEIGHT (unwrap_or o (pos 0))
weight_within None within = record { at_least = omega (arith, ints); at_most = omega (arith, ints) }
weight_within (Some w) within = within

pub sum_fits : (x y : ℤ) → IsWithin MAX_WALK_WEIGHT x → IsAmount y → FitsSigned w64 (x +ℤ y)
sum_fits x y within amount = omega (arith, ints)

pub way_amount_fits : (x y : ℤ) → IsWithin MAX_WAY_WITH x → IsAmount y → FitsSigned w64 (x +ℤ y)
way_amount_fits x y within amount = omega (arith, ints)

pub sums_fit : (x y z : ℤ) → IsWithin MAX_WALK_WEIGHT x → IsAmount y → IsWithin MAX_WALK_WEIGHT z → FitsSigned w64 ((x +ℤ y) +ℤ z)
sums_fit x y z within amount within_z = omega (arith, ints)

pub positive_from : (x : ℤ) → lt_z (pos 0) x ≡ true → pos 0 <ℤ x
positive_from x h = grind (arith, ints)

-- a way back that is not too long closes nothing
pub closes_none : (p : Problem) (pair : Pair) (rows : Rows) (back : ℤ) → entry rows pair.after pair.before ≡ Some back
    → (back +ℤ duration p pair.before) ≤ℤ pos 0 → ClosesNone (pair_arc p pair) rows
closes_none p pair rows back e low = λ x f.
    let same : x ≡ back = same_some x back (entry rows pair.after pair.before) f e in
    omega (arith, ints)

pub closes_none_without : (p : Problem) (pair : Pair) (rows : Rows) → entry rows pair.after pair.before ≡ None → ClosesNone (pair_arc p pair) rows
closes_none_without p pair rows e = λ x f. let bad : None ≡ Some x = sym e ∙ f in cc

pub not_positive : (x : ℤ) → lt_z (pos 0) x ≡ false → x ≤ℤ pos 0
not_positive x h = grind (arith, ints)

-- the matrix with one pair more that closes nothing
pub matrix_with : (node : Subproblem) (pair : Pair) (rows : Rows) → IsTiedTo node rows
    → NameActivities node.project (pair ∷ []) → ClosesNone (pair_arc node.project pair) rows →
    IsProjectMatrix node.project (node.pairs ++ pair ∷ []) (rows_over (pair_arc node.project pair) rows)
matrix_with node pair rows tied named none = matrix_more node.project node.pairs pair rows named none tied.matrix

-- the node without pairs
pub root_is_node : (p : Problem) (rows : Rows) (bound : ℤ) → IsProjectMatrix p [] rows → IsBoundOf p rows bound
    → IsTrueBoundFor p rows bound → IsNode (record { project = p; pairs = []; bound = bound })
root_is_node p rows bound m bound_of holds = record {
  limits = m.limits;
  named = m.named;
  is_live = m.matrix.no_cycle;
  bound_of = record { rows = rows; matrix = m; bound_of = bound_of };
  true_bound = holds [] m;
}

-- the matrix of the project's rules, with no pair
pub no_pairs : (p : Problem) (rows : Rows) → IsProject p → IsMatrixOf (activity_count p) (arcs_of p []) rows → IsProjectMatrix p [] rows
no_pairs p rows is m = record { limits = is; named = All-nil (λ (q : Pair). (q.before < activity_count p) × (q.after < activity_count p)); matrix = m }

-- a node that has just these parts is the root
pub root_of : (p : Problem) (root : Subproblem) (bound : ℤ) → root ≡ record { project = p; pairs = []; bound = bound }
    → IsNode (record { project = p; pairs = []; bound = bound }) → IsRootOf p root
root_of p root bound is is_node = record {
  of_project = record { project = ap (λ (n : Subproblem). n.project) is; is_node = subst (λ (n : Subproblem). IsNode n) (sym is) is_node };
  no_pairs = ap (λ (n : Subproblem). n.pairs) is;
}

pub least_of_one : (n : ℤ) → IsLeast (n ∷ []) (Some n)
least_of_one n = ((0, omega arith, refl), All-cons (λ m. n ≤ℤ m) n [] (omega (arith, ints)) (All-nil (λ m. n ≤ℤ m)))
