-- What the overload of a least schedule gives: members of a forbidden set that take time, and ordered
-- pairs that are new to the node.
use Rattle.std.proofs.Common.{◌≡◌, refl, sym, ap, ℕ, ◌-◌, ◌<◌, ◌≤◌, true, ◌&&◌, List, [], ◌∷◌, length, get_or, arith, Option, Some, None, ℤ, pos, ◌+ℤ◌, ◌≤ℤ◌}
use Rattle.std.proofs.Common.{◌<ℤ◌, int_le, int_lt}
use Rattle.std.specs.List.{All, Contains}
use Rattle.std.specs.List.Sorted.{IsStrictlyIncreasing}
use Rattle.std.proofs.lemmas.Int.{ints}
use Rattle.std.proofs.lemmas.List.Elements.{All-nil, All-contains, All-weaker, Contains-get_or, filter_passes}
use Rattle.std.proofs.Math.Nat.{mul-le-mul_left, mul-le-mul_right}
use Rattle.network.specs.declared.parts.Pair.{Pair}
use Rattle.network.specs.Schedule.{IsForbidden, IsMinimalForbidden, start, makespan, is_running, running, IsWithinCapacities, IsLeastSchedule, ScheduleOf}
use Rattle.network.specs.Problem.{IsProject, Problem, activity_count, end_of, resource_count, activities, duration, NameActivities, pair_of}
use Rattle.network.specs.declared.limits.TheConstants.{MAX_ACTIVITIES}
use Rattle.network.proofs.Schedules.{running_below}
use Rattle.forbidden_sets.specs.MinimalSet.{MinimalSet}
use Rattle.branching.specs.Subproblem.{Subproblem, NodeStandsFor, IsNode, ordered_pairs}
use Rattle.branching.specs.declared.report.TheConstants.{MAX_CHILDREN}
use Rattle.branching.specs.Right.{IsRightSet, IsCutUnder, IsBelow, Reaches}
use Rattle.branching.specs.Fates.{Fates, AreFates}
use Rattle.branching.specs.Fair.{IsNewTo, IsChildOf, IsReport}
use Rattle.branching.proofs.OrderedPairs.{here, all_pairs, count_pairs}
use Rattle.forbidden_sets.proofs.Apart.{BeginsFrom, rising_length}
use Rattle.branching.proofs.Covers.{some_kept}
use Rattle.branching.proofs.Fates.{fates_children, fates_cover, fates_few}

-- ---- the running activities

starts_if : (s u e : ℤ) → (int_le s u && int_lt u e) ≡ true → s ≤ℤ u
starts_if s u e h = grind (arith, ints)

ends_if : (s u e : ℤ) → (int_le s u && int_lt u e) ≡ true → u <ℤ e
ends_if s u e h = grind (arith, ints)

-- ---- members run together at the overload

pub record RunTogether (p : Problem) (s : List ℤ) (t : ℤ) (set : List ℕ) : Type 0 where
  pub known : All (λ i. i < activity_count p) set
  pub run : All (λ i. is_running p s t i ≡ true) set

pub run_together : (p : Problem) (s : List ℤ) (t : ℤ) (runs set : List ℕ) → runs ≡ running p s t → All (Contains runs) set → RunTogether p s t set
run_together p s t runs set e within = record {
  known = λ k d l. All-contains (λ i. i < activity_count p) runs (get_or set k d) (running_below p s t runs e) (within k d l);
  run = λ k d l. All-contains (λ i. is_running p s t i ≡ true) runs (get_or set k d) (rw e (filter_passes (is_running p s t) (activities p))) (within k d l);
}

-- what runs takes time
takes_time : (p : Problem) (s : List ℤ) (t : ℤ) (i : ℕ) → is_running p s t i ≡ true → pos 0 <ℤ duration p i
takes_time p s t i h =
    let starts = starts_if (start s i) t (start s i +ℤ duration p i) h in
    let ends = ends_if (start s i) t (start s i +ℤ duration p i) h in
    omega (arith, ints)

forbidden_together : (p : Problem) (s : List ℤ) (t : ℤ) (k : ℕ) (set : List ℕ) → k < resource_count p
    → RunTogether p s t set → IsStrictlyIncreasing set → IsForbidden p k set → IsRightSet p k set
forbidden_together p s t k set in_range together rising forbidden = record {
  in_range = in_range;
  rising = rising;
  named = together.known;
  take_time = All-weaker (λ i. is_running p s t i ≡ true) (λ i. pos 0 <ℤ duration p i) (λ i h. takes_time p s t i h) set together.run;
  forbidden = forbidden;
}

-- a minimal forbidden set of activities that run together
pub minimal_together : (p : Problem) (s : List ℤ) (t : ℤ) (k : ℕ) (runs set : List ℕ) → k < resource_count p
    → runs ≡ running p s t → All (Contains runs) set → IsMinimalForbidden p k set → IsRightSet p k set
minimal_together p s t k runs set in_range e within minimal =
    forbidden_together p s t k set in_range (run_together p s t runs set e within) minimal.rising minimal.forbidden

-- ---- their pairs are new to the node

new_pair : (node : Subproblem) (s : List ℤ) (t : ℤ) (i j : ℕ) → IsLeastSchedule node.project node.pairs s
    → i < activity_count node.project → j < activity_count node.project → is_running node.project s t i ≡ true
    → is_running node.project s t j ≡ true → IsNewTo node (pair_of i j)
new_pair node s t i j least below_i below_j runs_i runs_j other other_least keeps =
    let ends = ends_if (start s i) t (start s i +ℤ duration node.project i) runs_i in
    let starts = starts_if (start s j) t (start s j +ℤ duration node.project j) runs_j in
    let first = least.least other other_least.schedule other_least.keeps i below_i in
    let second = other_least.least s least.schedule least.keeps j below_j in
    absurd (omega (arith, ints))

pub new_pairs : (node : Subproblem) (s : List ℤ) (t : ℤ) (set : List ℕ) → IsLeastSchedule node.project node.pairs s
    → RunTogether node.project s t set → All (IsNewTo node) (ordered_pairs set)
new_pairs node s t set least together =
    all_pairs (IsNewTo node) set (λ i j ci cj.
    new_pair node s t i j least
    (All-contains (λ a. a < activity_count node.project) set i together.known ci)
    (All-contains (λ a. a < activity_count node.project) set j together.known cj)
    (All-contains (λ a. is_running node.project s t a ≡ true) set i together.run ci)
    (All-contains (λ a. is_running node.project s t a ≡ true) set j together.run cj))

pub named_pairs : (p : Problem) (s : List ℤ) (t : ℤ) (set : List ℕ) → RunTogether p s t set → NameActivities p (ordered_pairs set)
named_pairs p s t set together =
    all_pairs (λ (q : Pair). (q.before < activity_count p) × (q.after < activity_count p)) set (λ i j ci cj.
    (All-contains (λ a. a < activity_count p) set i together.known ci, All-contains (λ a. a < activity_count p) set j together.known cj))

-- ---- at most 1,000 members, so at most 999,000 pairs

-- what takes time is neither the start nor the end
lies_between : (p : Problem) (i : ℕ) → IsProject p → i < activity_count p → pos 0 <ℤ duration p i → (1 ≤ i) × (i < 1001)
lies_between p i is known long =
    let start_none : duration p 0 ≡ pos 0 = is.start_is_dummy.no_time in
    let end_none : duration p (end_of p) ≡ pos 0 = is.end_is_dummy.no_time in
    let few : activity_count p ≤ MAX_ACTIVITIES = is.activity_limit in
    let not_start : i ≡ 0 → ⊥ = λ e. let same : duration p i ≡ duration p 0 = ap (duration p) e in omega (arith, ints) in
    let not_end : i ≡ end_of p → ⊥ = λ e. let same : duration p i ≡ duration p (end_of p) = ap (duration p) e in omega (arith, ints) in
    (omega (arith, not_start), omega (arith, not_end))

pub few_pairs : (p : Problem) (k : ℕ) (set : List ℕ) → IsProject p → IsRightSet p k set → length (ordered_pairs set) ≤ MAX_CHILDREN
few_pairs p k set is together =
    let between : (i : ℕ) → Contains set i → (1 ≤ i) × (i < 1001) = λ i c.
    lies_between p i is (All-contains (λ a. a < activity_count p) set i together.named c)
    (All-contains (λ a. pos 0 <ℤ duration p a) set i together.take_time c) in
    let members : length set ≤ 1000 = rising_length 1 1000 set (begins set (λ i c. (between i c).0)) together.rising
    (λ j d l. (between (get_or set j d) (Contains-get_or set j d l)).1) in
    let fewer : length set - 1 ≤ 999 = omega arith in
    omega (arith, count_pairs set, mul-le-mul_left (length set) fewer, mul-le-mul_right 999 members)
  where
    begins : (xs : List ℕ) → ((i : ℕ) → Contains xs i → 1 ≤ i) → BeginsFrom 1 xs
    begins [] h = tt
    begins (x ∷ xs) h = h x (here x xs)

-- ---- reports

-- a bound at the ceiling cuts the node
pub node_cut : (node : Subproblem) (ceiling : Option ℤ) → IsNode node → Reaches ceiling node.bound → IsCutUnder node.project node.pairs ceiling
node_cut node None is reaches = reaches
node_cut node (Some limit) is reaches = record { is_live = is.is_live; bound = node.bound; bound_of = is.bound_of; reaches = reaches }

pub report_cut : (node : Subproblem) (ceiling : Option ℤ) → IsNode node → Reaches ceiling node.bound
    → ((s : List ℤ) → NodeStandsFor node s → ¬ IsBelow ceiling s) →
    IsReport (record { node = node; ceiling = ceiling; found = None; split = None; fates = []; children = [] })
report_cut node ceiling is reaches none = record {
  is_node = is;
  fair = record {
    of_found = tt;
    of_children = All-nil (IsChildOf node);
    covers = λ s stands below shorter. absurd (none s stands below);
    few = omega arith;
  };
  told = record { no_fates = refl; no_children = refl; of_found = node_cut node ceiling is reaches };
}

pub report_found : (node : Subproblem) (ceiling : Option ℤ) (found : ScheduleOf) → IsNode node
    → found.project ≡ node.project → IsLeastSchedule node.project node.pairs found.starts
    → IsWithinCapacities node.project found.starts →
    IsReport (record { node = node; ceiling = ceiling; found = Some found; split = None; fates = []; children = [] })
report_found node ceiling found is project least within = record {
  is_node = is;
  fair = record {
    of_found = record { project = project; stands = record { feasible = record { schedule = least.schedule; within = within }; keeps = least.keeps } };
    of_children = All-nil (IsChildOf node);
    covers = λ s stands below shorter.
        let two : 2 ≤ activity_count node.project = is.limits.two_dummies in
        let last : end_of node.project < activity_count node.project = omega arith in
        let long : start found.starts (end_of node.project) ≤ℤ start s (end_of node.project) =
        least.least s stands.feasible.schedule stands.keeps (end_of node.project) last in
        let here : start found.starts (end_of node.project) ≡ makespan found.starts = ap (λ n. start found.starts (n - 1)) (sym least.schedule.whole) in
        let there : start s (end_of node.project) ≡ makespan s = ap (λ n. start s (n - 1)) (sym stands.feasible.schedule.whole) in
        absurd (omega (arith, ints, shorter));
    few = omega arith;
  };
  told = record { no_fates = refl; no_children = refl; of_found = least };
}

-- fates of the ordered pairs of a set make a fair report, since some pair is always kept
pub report_split : (node : Subproblem) (ceiling : Option ℤ) (set : MinimalSet) (fates : Fates)
    (children : List Subproblem) → IsNode node → IsRightSet node.project set.resource set.members
    → All (IsNewTo node) (ordered_pairs set.members) →
    AreFates node ceiling (ordered_pairs set.members) fates children →
    IsReport (record { node = node; ceiling = ceiling; found = None; split = Some set; fates = fates; children = children })
report_split node ceiling set fates children is right new are =
    let pairs : List Pair = ordered_pairs set.members in
    let most : length pairs ≤ MAX_CHILDREN = few_pairs node.project set.resource set.members is.limits right in
    record {
      is_node = is;
      fair = record {
        of_found = tt;
        of_children = fates_children node ceiling pairs fates children are new;
        covers = λ s stands below shorter. fates_cover node ceiling pairs fates children are s stands below
            (some_kept node.project set.resource set.members right s stands.feasible);
        few = omega (arith, fates_few node ceiling pairs fates children are, most);
      };
      told = record { right_set = right; none_found = refl; fates = are };
    }
