-- What a right record claims is true.
use Rattle.std.proofs.Common.{◌≡◌, ◌-◌, ◌<◌, ◌≤◌, List, [], ◌∷◌, ◌++◌, length, sym, subst, ⊎_elim, arith, Option, Some, None, ℕ, ◌∙◌, ℤ, refl, ap, suc, pos}
use Rattle.std.proofs.Common.{negsuc, ◌≤ℤ◌, map, append-nil}
use Rattle.std.specs.List.{All, Contains, AllByRecursion}
use Rattle.std.proofs.lemmas.Bool.{cases_lt}
use Rattle.std.proofs.lemmas.Int.{ints}
use Rattle.std.proofs.lemmas.List.Elements.{All-nil, All-head, All-tail, All-push, All-contains}
use Rattle.network.specs.declared.parts.Pair.{Pair}
use Rattle.network.specs.Problem.{Problem, activity_count, IsProject, AreStarts, arcs_of, rules}
use Rattle.network.specs.Schedule.{Keeps, IsSchedule, IsFeasible, IsLeastSchedule, KeepsAll, makespan, StandsFor, start, Meets, IsTrueVerdict}
use Rattle.network.specs.declared.parts.Lag.{Lag}
use Rattle.network.proofs.Schedules.{no_schedule_on_cycle, walk_holds}
use Rattle.longest_path.proofs.Ends.{from_start}
use Rattle.branching.specs.Subproblem.{ordered_pairs}
use Rattle.branching.specs.Right.{IsCutUnder, IsSolvedUnder}
use Rattle.branching.proofs.OrderedPairs.{contains_cases}
use Rattle.branching.proofs.Covers.{some_pair_kept, all_left}
use Rattle.branching.proofs.Forcings.{forced_holds}
use Rattle.branching.proofs.Fates.{cut_holds}
use Rattle.record_text.specs.declared.line.Claim.{Claim}
use Rattle.record_text.specs.declared.line.Claim.TheVariants as claims
use Rattle.record_text.specs.declared.line.Line.TheVariants as kind
use Rattle.record_text.specs.Tree.{Tree, force, solved, cut, dead, split, Trees, tree, count_trees, IsTree, AreTrees, IsTreeOf, no_trees, lines_of}
use Rattle.record_text.specs.Tree.{lines_of_all}
use Rattle.search_record.specs.Due.{place, places, child_places, Place}
use Rattle.record_text.proofs.FirstWrong.{all_right, wrong_place, one_wrong, fault_is_wrong, other_is_none}
use Rattle.search_record.specs.Right.{limit_of, IsRightPlace, AreRightStarts, RightIsTrue, AreRightLines, why_wrong_at, IsFirstWrong, IsRightLine, search_judge}
use Rattle.record_text.specs.FirstWrong.{FaultIsWrong, OtherFaultIsNone}
use Rattle.record_text.specs.Kinds.{first_line}
use Rattle.search_record.proofs.Steps.{child_for_each, flat_whole}
use Rattle.record_text.specs.declared.fault.RecordFault.{RecordFault}
use Rattle.record_text.specs.declared.line.Line.{Line}
use Rattle.std.proofs.lemmas.List.{map-append}
use Rattle.network.specs.declared.limits.TheConstants.{MAX_START}
use Rattle.record_text.specs.Text.{IsNumber, IsWritableTime, IsWritableClaim, IsWritableLine, search_kind, says}

-- the schedule is not below the limit, and there is none where there is no limit
abbrev ReachesLimit : Option ℤ → List ℤ → Type 0
ReachesLimit (Some limit) s = limit ≤ℤ makespan s
ReachesLimit None s = ⊥

with_pair : (p : Problem) (pairs : List Pair) (pair : Pair) (s : List ℤ) → StandsFor p pairs s → Keeps p s pair → StandsFor p (pairs ++ pair ∷ []) s
with_pair p pairs pair s stands keeps = record { feasible = stands.feasible; keeps = All-push (Keeps p s) pairs pair stands.keeps keeps }

-- the least schedule is over first
least_is_shortest : (p : Problem) (pairs : List Pair) (l s : List ℤ) → IsLeastSchedule p pairs l → IsSchedule p s
    → KeepsAll p s pairs → makespan l ≤ℤ makespan s
least_is_shortest p pairs l s least is keeps =
    ⊎_elim
    (λ (some : 0 < activity_count p). rw (least.schedule.whole, is.whole) (least.least s is keeps (activity_count p - 1) (omega arith)))
    (λ (none : activity_count p ≤ 0).
    let empty : activity_count p ≡ 0 = omega arith in
    rw (least.schedule.whole, is.whole, empty, least.schedule.from_zero, is.from_zero) (omega (arith, ints)))
    (cases_lt 0 (activity_count p))

at_solved : (p : Problem) (limit : Option ℤ) (pairs : List Pair) (s : List ℤ) → IsSolvedUnder p pairs limit → StandsFor p pairs s → ReachesLimit limit s
at_solved p None pairs s right stands = absurd right
at_solved p (Some limit) pairs s right stands =
    omega (
      arith,
      ints,
      right.reaches,
      least_is_shortest p pairs right.starts s right.least stands.feasible.schedule
          stands.keeps,
    )

at_cut : (p : Problem) (limit : Option ℤ) (pairs : List Pair) (s : List ℤ) → IsCutUnder p pairs limit → StandsFor p pairs s → ReachesLimit limit s
at_cut p None pairs s right stands = absurd right
at_cut p (Some limit) pairs s right stands = cut_holds p pairs limit right s stands

-- each schedule that a right node stands for reaches the limit
mutual
  node_reaches : (p : Problem) (limit : Option ℤ) (pairs : List Pair) (t : Tree) (s : List ℤ) → IsTree t
      → All (IsRightPlace p limit) (places pairs t) → StandsFor p pairs s → ReachesLimit limit s
  node_reaches p limit pairs (force pair t) s shape right stands =
      let here = All-head (IsRightPlace p limit) (place pairs (kind.Force pair)) (places (pairs ++ pair ∷ []) t) right in
      node_reaches p limit (pairs ++ pair ∷ []) t s shape
      (All-tail (IsRightPlace p limit) (place pairs (kind.Force pair)) (places (pairs ++ pair ∷ []) t) right)
      (with_pair p pairs pair s stands (forced_holds p pairs pair s here stands))
  node_reaches p limit pairs solved s shape right stands = at_solved p limit pairs s (All-head (IsRightPlace p limit) (place pairs kind.Solved) [] right) stands
  node_reaches p limit pairs cut s shape right stands = at_cut p limit pairs s (All-head (IsRightPlace p limit) (place pairs kind.Cut) [] right) stands
  node_reaches p limit pairs dead s shape right stands =
      absurd (no_schedule_on_cycle p pairs s (All-head (IsRightPlace p limit) (place pairs kind.Dead) [] right) stands.feasible.schedule stands.keeps)
  node_reaches p limit pairs (split resource members children) s shape right stands =
      let rest = child_places pairs (ordered_pairs members) children in
      let here = All-head (IsRightPlace p limit) (place pairs (kind.Split resource members)) rest right in
      let kept = some_pair_kept p s resource members stands.feasible here.1 in
      children_reach p limit pairs (ordered_pairs members) children s (child_for_each members children shape.1) shape.2
      (All-tail (IsRightPlace p limit) (place pairs (kind.Split resource members)) rest right) stands kept.0
      kept.1.0 kept.1.1

  children_reach : (p : Problem) (limit : Option ℤ) (pairs added : List Pair) (children : Trees) (s : List ℤ)
      → count_trees children ≡ length added → AreTrees children
      → All (IsRightPlace p limit) (child_places pairs added children) → StandsFor p pairs s →
      (pair : Pair) → Contains added pair → Keeps p s pair → ReachesLimit limit s
  children_reach p limit pairs (first ∷ added) (tree t ts) s count shapes right stands pair within keeps =
      let mine = places (pairs ++ first ∷ []) t in
      let others = child_places pairs added ts in
      ⊎_elim
      (λ (same : first ≡ pair). node_reaches p limit (pairs ++ first ∷ []) t s shapes.0
      (all_left (IsRightPlace p limit) mine others right)
      (with_pair p pairs first s stands (subst (Keeps p s) (sym same) keeps)))
      (λ (later : Contains added pair). children_reach p limit pairs added ts s (omega arith) shapes.1
      (all_right (IsRightPlace p limit) mine others right) stands pair later keeps)
      (contains_cases first added pair within)
  children_reach p limit pairs added children s count shapes right stands pair within keeps = absurd (omega arith)

pub right_is_true : RightIsTrue
right_is_true p r right = by_claim r.claim right.starts
    (λ s feasible. node_reaches p (limit_of r.claim) [] right.lines.whole s right.lines.tree_of.shape right.lines.right
    (record { feasible = feasible; keeps = All-nil (Keeps p s) }))
  where
    by_claim : (claim : Claim) → AreRightStarts p claim → ((s : List ℤ) → IsFeasible p s → ReachesLimit (limit_of claim) s) → IsTrueVerdict p (says claim)
    by_claim (claims.Optimal length starts) found least = record { witness = (starts, found.0, found.1); bound = least }
    by_claim claims.NoSchedule found least = λ s feasible. least s feasible

-- ---- A record with a first fault is not right, and has no other.

-- the places of two trees that have the same lines
same_places : (lines : List Line) (t u : Tree) → IsTreeOf lines t → IsTreeOf lines u → places [] t ≡ places [] u
same_places lines t u of_t of_u = sym (flat_whole t lines of_t.shape of_t.spelled) ∙ flat_whole u lines of_u.shape of_u.spelled

pub wrong_line : (p : Problem) (limit : Option ℤ) (first : ℕ) (lines : List Line) (fault : RecordFault)
    → IsFirstWrong p limit first lines fault → ¬ AreRightLines p limit lines
wrong_line p limit first lines fault found right =
    wrong_place (IsRightPlace p limit) why_wrong_at first (places [] found.whole) fault found.first_of
    (rw (same_places lines found.whole right.whole found.tree_of right.tree_of) right.right)

pub faulty_is_wrong : FaultIsWrong search_judge
faulty_is_wrong = fault_is_wrong search_judge (λ p claim lines fault found. wrong_line p (limit_of claim) (first_line search_kind claim) lines fault found)

pub one_fault : OtherFaultIsNone search_judge
one_fault = other_is_none search_judge (λ p claim lines a b f g.
    one_wrong (IsRightPlace p (limit_of claim)) why_wrong_at (first_line search_kind claim) _ _ a b
    (same_places lines f.whole g.whole f.tree_of g.tree_of) f.first_of g.first_of)

-- ---- The numbers of a right record can be spelled.

-- ---- lines

numbers_below : (limit : ℕ) (members : List ℕ) → limit ≤ 10000000000 → All (λ i. i < limit) members → AllByRecursion IsNumber members
numbers_below limit [] few below = tt
numbers_below limit (i ∷ members) few below =
    let first : i < limit = All-head (λ i. i < limit) i members below in
    (omega (arith, first, few), numbers_below limit members few (All-tail (λ i. i < limit) i members below))

spelled_line : (p : Problem) (limit : Option ℤ) → IsProject p → (pairs : List Pair) (line : Line) → IsRightLine p limit pairs line → IsWritableLine line
spelled_line p limit is pairs (kind.Force pair) right = (
  omega (arith, right.incompatible.first_named, is.activity_limit),
  omega (arith, right.incompatible.second_named, is.activity_limit),
)
spelled_line p limit is pairs (kind.Split resource members) right =
    (omega (arith, right.1.in_range, is.resource_limit), numbers_below (activity_count p) members (omega (arith, is.activity_limit)) right.1.named)
spelled_line p limit is pairs _ right = tt

abbrev line_at : Place → Line
line_at here = here.line

spelled_places : (p : Problem) (limit : Option ℤ) → IsProject p → (all : List Place) → All (IsRightPlace p limit) all
    → AllByRecursion IsWritableLine (map line_at all)
spelled_places p limit is [] right = tt
spelled_places p limit is (here ∷ all) right = (
  spelled_line p limit is here.pairs here.line (All-head (IsRightPlace p limit) here all right),
  spelled_places p limit is all (All-tail (IsRightPlace p limit) here all right),
)

-- the places of a tree have its lines
mutual
  lines_at : (t : Tree) (pairs : List Pair) → IsTree t → map line_at (places pairs t) ≡ lines_of t
  lines_at (force pair t) pairs shape = ap (λ (ls : List Line). kind.Force pair ∷ ls) (lines_at t (pairs ++ pair ∷ []) shape)
  lines_at (split resource members children) pairs shape =
      ap (λ (ls : List Line). kind.Split resource members ∷ ls)
      (lines_at_children (ordered_pairs members) children pairs (child_for_each members children shape.1) shape.2)
  lines_at t pairs shape = refl

  lines_at_children : (added : List Pair) (children : Trees) (pairs : List Pair) → count_trees children ≡ length added
      → AreTrees children → map line_at (child_places pairs added children) ≡ lines_of_all children
  lines_at_children [] no_trees pairs count shapes = refl
  lines_at_children (first ∷ added) (tree t ts) pairs count shapes =
      map-append line_at (places (pairs ++ first ∷ []) t) (child_places pairs added ts)
      ∙ ap (λ (ls : List Line). ls ++ map line_at (child_places pairs added ts)) (lines_at t (pairs ++ first ∷ []) shapes.0)
      ∙ ap (λ (ls : List Line). lines_of t ++ ls) (lines_at_children added ts pairs (omega arith) shapes.1)
  lines_at_children added children pairs count shapes = absurd (omega arith)

pub spelled_tree : (p : Problem) (limit : Option ℤ) → IsProject p → (t : Tree) → IsTree t
    → All (IsRightPlace p limit) (places [] t) → AllByRecursion IsWritableLine (lines_of t)
spelled_tree p limit is t shape right = rw (sym (lines_at t [] shape)) (spelled_places p limit is (places [] t) right)

-- ---- starts

-- no activity starts before 0
after_zero : (p : Problem) (s : List ℤ) → IsSchedule p s → (i : ℕ) → i < activity_count p → pos 0 ≤ℤ start s i
after_zero p s is i lt =
    let far = from_start p [] i lt in
    let met : (e : Lag) → Contains (arcs_of p []) e → Meets s e = λ e c.
    All-contains (Meets s) (rules p) e is.rules_met
    (subst (λ (arcs : List Lag). Contains arcs e) (append-nil (rules p)) c) in
    omega (arith, ints, walk_holds (arcs_of p []) s met 0 i far.walk far.goes, far.weighs, is.from_zero)

spelled_time : (z : ℤ) → pos 0 ≤ℤ z → z ≤ℤ MAX_START → IsWritableTime z
spelled_time (pos n) low high = omega (arith, ints, high)
spelled_time (negsuc n) low high = absurd (omega (arith, ints, low))

spelled_times : (s : List ℤ) → ((i : ℕ) → i < length s → IsWritableTime (start s i)) → AllByRecursion IsWritableTime s
spelled_times [] each = tt
spelled_times (x ∷ s) each = (each 0 (omega arith), spelled_times s (λ i lt. each (suc i) (omega (arith, lt))))

pub spelled_claim : (p : Problem) (s : List ℤ) → IsProject p → IsFeasible p s → AreStarts p s → IsWritableClaim (claims.Optimal (makespan s) s)
spelled_claim p s is feasible starts =
    let some : 0 < length s = omega (arith, starts.count, is.two_dummies) in
    (time (length s - 1) (omega (arith, some)), some, spelled_times s time)
  where
    time : (i : ℕ) → i < length s → IsWritableTime (start s i)
    time i lt = spelled_time (start s i) (after_zero p s feasible.schedule i (omega (arith, lt, starts.count))) (starts.within i (pos 0) lt).at_most
