-- What a node's matrix decides of a line.
use Rattle.std.proofs.Common.{◌≡◌, sym, ap, ◌∙◌, subst, ℕ, ◌<◌, ◌≤◌, arith, ℤ, pos, ◌+ℤ◌, ◌≤ℤ◌, ◌<ℤ◌, List, length, Option, None, Some, false, ◌+◌, [], ◌∷◌}
use Rattle.std.proofs.Common.{◌++◌, take, length-append, append_assoc, ◌↔◌, IsTrue, neg_ℤ}
use Rattle.std.specs.Int.Signed.{lt_z, le_z}
use Rattle.std.proofs.lemmas.Int.{ints}
use Rattle.std.proofs.lemmas.Bool.{false≢true}
use Rattle.std.proofs.lemmas.List.{ext_get_or}
use Rattle.network.specs.declared.parts.Lag.{Lag}
use Rattle.network.specs.declared.parts.Pair.{Pair}
use Rattle.network.specs.Problem.{Problem, activity_count, capacity, duration, arcs_of}
use Rattle.network.specs.Walk.{IsProjectMatrix, Rows, weight, entry, IsGreatestWeight}
use Rattle.network.specs.Schedule.{start, makespan, use_at, IsLeastSchedule, IsWithinCapacities}
use Rattle.longest_path.proofs.Bound.{one_matrix}
use Rattle.profile.specs.Overloads.{IsFirstOverload}
use Rattle.bounds.specs.Bound.{IsBoundOf}
use Rattle.bounds.proofs.TrueBounds.{IsBoundOf-same}
use Rattle.branching.specs.Subproblem.{IsBoundOfPairs}
use Rattle.branching.specs.Right.{IsTooLateFor, IsCut, IsSolved, IsInfeasible}
use Rattle.std.proofs.Math.Seq.{take-append_seam}
use Rattle.branching.proofs.Paths.{cycle_before}
use Rattle.search_record.specs.TreeNode.{IsInfeasibleFrom}

pub refused : (P : Type 0) → ¬ P → IsTrue false ↔ P
refused P never = (λ t. absurd (false≢true t), λ h. absurd (never h))

late_test : (d w : ℤ) → IsTrue (lt_z (pos 0) (w +ℤ d)) → neg_ℤ d <ℤ w
late_test d w h = let positive : pos 0 <ℤ (w +ℤ d) = grind (arith, ints) in omega (arith, ints)

test_late : (d w : ℤ) → neg_ℤ d <ℤ w → IsTrue (lt_z (pos 0) (w +ℤ d))
test_late d w h = let positive : pos 0 <ℤ (w +ℤ d) = omega (arith, ints) in grind (arith, ints)

le_test : (x y : ℤ) → IsTrue (le_z x y) → x ≤ℤ y
le_test x y h = grind (arith, ints)

test_le : (x y : ℤ) → x ≤ℤ y → IsTrue (le_z x y)
test_le x y h = grind (arith, ints)

same_some : (x y : ℤ) → Some x ≡ Some y → x ≡ y
same_some x y e = cc

-- ---- a pair's greatest weight

-- a weight that is there is the entry's
weight_is : (arcs : List Lag) (a b : ℕ) (x : ℤ) (o : Option ℤ) → IsGreatestWeight arcs a b (Some x) → IsGreatestWeight arcs a b o → o ≡ Some x
weight_is arcs a b x None of_x of = absurd (of of_x.0.0 of_x.0.1)
weight_is arcs a b x (Some y) of_x of =
    let low : weight of_x.0.0 ≤ℤ y = of.1 of_x.0.0 of_x.0.1 in
    let high : weight of.0.0 ≤ℤ x = of_x.1 of.0.0 of.0.1 in
    let same : y ≡ x = omega (arith, ints) in
    ap Some same

pub too_late : (p : Problem) (pairs : List Pair) (pair : Pair) (rows : Rows) (w : ℤ) → IsProjectMatrix p pairs rows
    → pair.before < activity_count p → pair.after < activity_count p → entry rows pair.before pair.after ≡ Some w →
    IsTrue (lt_z (pos 0) (w +ℤ duration p pair.after)) ↔ IsTooLateFor p pairs pair
too_late p pairs pair rows w m before after e =
    let at : IsGreatestWeight (arcs_of p pairs) pair.before pair.after (Some w) = rw e at (m.matrix.greatest pair.before pair.after before after) in (
      λ test. record { weight = w; greatest = at; above = late_test (duration p pair.after) w test },
      λ (late : IsTooLateFor p pairs pair).
          let same : w ≡ late.weight = same_some w late.weight (weight_is (arcs_of p pairs) pair.before pair.after late.weight (Some w) late.greatest at) in
          test_late (duration p pair.after) w (rw same late.above),
    )

pub not_late : (p : Problem) (pairs : List Pair) (pair : Pair) (rows : Rows) → IsProjectMatrix p pairs rows
    → pair.before < activity_count p → pair.after < activity_count p → entry rows pair.before pair.after ≡ None
    → ¬ IsTooLateFor p pairs pair
not_late p pairs pair rows m before after e late =
    let none : None ≡ Some late.weight = sym e
    ∙ weight_is (arcs_of p pairs) pair.before pair.after late.weight (entry rows pair.before pair.after)
    late.greatest (m.matrix.greatest pair.before pair.after before after) in
    cc

-- ---- the bound

pub cut_by : (p : Problem) (pairs : List Pair) (rows : Rows) (limit bound : ℤ) → IsProjectMatrix p pairs rows
    → IsBoundOf p rows bound → IsTrue (le_z limit bound) ↔ IsCut p pairs limit
cut_by p pairs rows limit bound m bound_of = (
  λ test. record {
    is_live = m.matrix.no_cycle;
    bound = bound;
    bound_of =
        record { rows = rows; matrix = m; bound_of = bound_of };
    reaches = le_test limit bound test;
  },
  λ (cut : IsCut p pairs limit).
      let of : IsBoundOfPairs p pairs cut.bound = cut.bound_of in
      let same : of.rows ≡ rows = one_matrix (activity_count p) (arcs_of p pairs) of.rows rows of.matrix.matrix m.matrix in
      let here : IsBoundOf p rows cut.bound = subst (λ (rows : Rows). IsBoundOf p rows cut.bound) same of.bound_of in
      let one : cut.bound ≡ bound = IsBoundOf-same p rows cut.bound bound here bound_of in
      test_le limit bound (rw one at cut.reaches),
)

-- ---- the least schedule

least_is : (p : Problem) (pairs : List Pair) (s t : List ℤ) → IsLeastSchedule p pairs s → IsLeastSchedule p pairs t → s ≡ t
least_is p pairs s t of_s of_t =
    let long_s : length s ≡ activity_count p = of_s.schedule.whole in
    let long_t : length t ≡ activity_count p = of_t.schedule.whole in
    ext_get_or (pos 0) s t (long_s ∙ sym long_t) (λ i li.
    let known : i < activity_count p = rw long_s at li in
    let low : start s i ≤ℤ start t i = of_s.least t of_t.schedule of_t.keeps i known in
    let high : start t i ≤ℤ start s i = of_t.least s of_s.schedule of_s.keeps i known in
    omega (arith, ints))

pub solved_by : (p : Problem) (pairs : List Pair) (rows : Rows) (starts : List ℤ) (limit : ℤ)
    → IsProjectMatrix p pairs rows → IsLeastSchedule p pairs starts → IsWithinCapacities p starts →
    IsTrue (le_z limit (makespan starts)) ↔ IsSolved p pairs limit
solved_by p pairs rows starts limit m least within = (
  λ test. record {
    is_live = m.matrix.no_cycle;
    starts = starts;
    least = least;
    feasible =
        record { schedule = least.schedule; within = within };
    reaches = le_test limit (makespan starts) test;
  },
  λ (solved : IsSolved p pairs limit).
      let same : solved.starts ≡ starts = least_is p pairs solved.starts starts solved.least least in
      let here : limit ≤ℤ makespan starts = subst (λ (s : List ℤ). limit ≤ℤ makespan s) same solved.reaches in
      test_le limit (makespan starts) here,
)

pub not_solved : (p : Problem) (pairs : List Pair) (starts : List ℤ) (limit t : ℤ) (k : ℕ)
    → IsLeastSchedule p pairs starts → IsFirstOverload p starts t k → ¬ IsSolved p pairs limit
not_solved p pairs starts limit t k least found solved =
    let same : solved.starts ≡ starts = least_is p pairs solved.starts starts solved.least least in
    let within : IsWithinCapacities p starts = subst (λ (s : List ℤ). IsWithinCapacities p s) same solved.feasible.within in
    let under : use_at p starts k t ≤ capacity p k = within t k found.least_resource.in_range in
    absurd (omega arith)

-- ---- A dead node.

-- where a pair closes a walk of positive weight, those after it change nothing
pub dead_all : (p : Problem) (before dead : List Pair) → 0 < length dead → IsInfeasibleFrom p before dead → IsInfeasible p (before ++ dead)
dead_all p before [] some d = absurd (omega arith)
dead_all p before (pair ∷ dead) some d =
    let long : length (before ++ pair ∷ []) ≡ length before + 1 = length-append before (pair ∷ []) in
    let first : before ++ pair ∷ [] ≡ take (length before + 1) (before ++ pair ∷ dead) =
    sym (take-append_seam (before ++ pair ∷ []) dead) ∙ ap (λ n. take n ((before ++ pair ∷ []) ++ dead)) long
    ∙ ap (λ (l : List Pair). take (length before + 1) l) (append_assoc before (pair ∷ []) dead) in
    cycle_before p (before ++ pair ∷ dead) (before ++ pair ∷ []) (length before + 1) first d
