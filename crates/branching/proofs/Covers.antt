-- A feasible schedule keeps some ordered pair of any forbidden set whose members take time: at the
-- greatest of their starts they don't all run, so one of them has ended.
use Rattle.std.proofs.Common.{◌≡◌, ◌≢◌, ℕ, List, [], ◌∷◌, get_or, subst, ◌⊎◌, inl, inr, arith, sym, ◌∙◌, ◌++◌, ⊎_elim, Option, Some, None, ℤ, pos, ◌+ℤ◌, ◌≤ℤ◌}
use Rattle.std.proofs.Common.{◌<ℤ◌, IfSome}
use Rattle.std.specs.List.{All, Any, Contains}
use Rattle.std.proofs.lemmas.Int.{ints, by_lt_z}
use Rattle.std.proofs.lemmas.List.Elements.{All-nil, All-cons, All-contains, All-append, All-weaker, Contains-append_left, Contains-append_right, Contains-push}
use Rattle.std.proofs.lemmas.List.Elements.{Contains-get_or}
use Rattle.network.specs.declared.parts.Pair.{Pair}
use Rattle.network.specs.Problem.{Problem, duration, pair_of, arcs_of}
use Rattle.network.specs.Schedule.{start, Keeps, IsFeasible, ScheduleOf, makespan, HasNoSchedule, IsScheduleFor}
use Rattle.branching.specs.Subproblem.{ordered_pairs, Subproblem, NodeStandsFor}
use Rattle.branching.specs.Right.{IsRightSet, IsBelow, IsUnder, Reaches}
use Rattle.branching.proofs.OrderedPairs.{here, there, contains_pair, any_cases, any_left, any_right}
use Rattle.forbidden_sets.proofs.Apart.{StartsLast, starts_last, not_all_run}
use Rattle.network.specs.Walk.{HasPositiveCycle}
use Rattle.network.proofs.Schedules.{no_schedule_on_cycle}
use Rattle.branching.specs.Fair.{Expansion, IsFair, IsShorterThan, IsFoundFor, IsChildOf, IsNodeOf, IsRootOf, IsCovered, IsShorterOf, ceiling_of}

-- ---- members that end before

abbrev EndsBy : Problem → List ℤ → ℤ → ℕ → Type 0
EndsBy p s u i = (start s i +ℤ duration p i) ≤ℤ u

abbrev EndsAfter : Problem → List ℤ → ℤ → ℕ → Type 0
EndsAfter p s u i = u <ℤ (start s i +ℤ duration p i)

-- one of them ends by u, or all end after u
some_ends : (p : Problem) (s : List ℤ) (u : ℤ) (xs : List ℕ) → ((i : ℕ) × (Contains xs i × EndsBy p s u i)) ⊎ All (EndsAfter p s u) xs
some_ends p s u [] = inr (All-nil (EndsAfter p s u))
some_ends p s u (x ∷ xs) = longer (some_ends p s u xs)
  where
    longer : ((i : ℕ) × (Contains xs i × EndsBy p s u i)) ⊎ All (EndsAfter p s u) xs
        → ((i : ℕ) × (Contains (x ∷ xs) i × EndsBy p s u i)) ⊎ All (EndsAfter p s u) (x ∷ xs)
    longer (inl (i, ends)) = inl (i, (there x xs i ends.0, ends.1))
    longer (inr after) =
        by_lt_z u (start s x +ℤ duration p x)
        (λ later. inr (All-cons (EndsAfter p s u) x xs later after))
        (λ done. inl (x, (here x xs, done)))

-- they can't all run at the greatest of their starts, so two of them are disjoint, and one ordered pair is kept
pub some_pair_kept : (p : Problem) (s : List ℤ) (k : ℕ) (set : List ℕ) → IsFeasible p s → IsRightSet p k set
    → (pair : Pair) × (Contains (ordered_pairs set) pair × Keeps p s pair)
some_pair_kept p s k [] feasible together = absurd (let exceeds = together.forbidden in omega arith)
some_pair_kept p s k (x ∷ xs) feasible together = by_last (starts_last s x xs)
  where
    by_last : (m : ℕ) × StartsLast s (x ∷ xs) m → (pair : Pair) × (Contains (ordered_pairs (x ∷ xs)) pair × Keeps p s pair)
    by_last (m, last) = by_ends (some_ends p s (start s m) (x ∷ xs))
      where
        takes_time : pos 0 <ℤ duration p m
        takes_time = All-contains (λ i. pos 0 <ℤ duration p i) (x ∷ xs) m together.take_time last.member

        by_ends : ((i : ℕ) × (Contains (x ∷ xs) i × EndsBy p s (start s m) i))
            ⊎ All (EndsAfter p s (start s m)) (x ∷ xs) → (pair : Pair)
            × (Contains (ordered_pairs (x ∷ xs)) pair × Keeps p s pair)
        by_ends (inl (i, ends)) =
            let other : i ≢ m = λ same. let done : EndsBy p s (start s m) m = subst (EndsBy p s (start s m)) same ends.1
            in absurd (omega (arith, ints, done, takes_time)) in
            (pair_of i m, (contains_pair (x ∷ xs) i m ends.0 last.member other, ends.1))
        by_ends (inr after) = absurd (not_all_run p s k (x ∷ xs) (start s m) feasible together.in_range together.rising
            together.named together.forbidden last.last after)

-- each feasible schedule keeps one of the ordered pairs
pub some_kept : (p : Problem) (k : ℕ) (set : List ℕ) → IsRightSet p k set → (s : List ℤ) → IsFeasible p s → Any (Keeps p s) (ordered_pairs set)
some_kept p k set together s feasible = as_any (some_pair_kept p s k set feasible together)
  where
    as_any : (pair : Pair) × (Contains (ordered_pairs set) pair × Keeps p s pair) → Any (Keeps p s) (ordered_pairs set)
    as_any (pair, found) = (found.0.0, pair, found.0.1, found.0.2, found.1)

-- ---- The steps of a search keep that its nodes cover what is shorter than its best.

pub all_left : {X : Type 0} (P : X → Type 0) (xs ys : List X) → All P (xs ++ ys) → All P xs
all_left P xs ys all k d l = All-contains P (xs ++ ys) (get_or xs k d) all (Contains-append_left xs ys (get_or xs k d) (Contains-get_or xs k d l))

all_right : {X : Type 0} (P : X → Type 0) (xs ys : List X) → All P (xs ++ ys) → All P ys
all_right P xs ys all k d l = All-contains P (xs ++ ys) (get_or ys k d) all (Contains-append_right xs ys (get_or ys k d) (Contains-get_or ys k d l))

-- where a schedule is shorter than the best, a bound that is at most its makespan is below the best's
pub under_best : (best : Option ScheduleOf) (bound : ℤ) (s : List ℤ) → bound ≤ℤ makespan s → IsShorterThan best s → IsUnder (ceiling_of best) bound
under_best None bound s low shorter = tt
under_best (Some best) bound s low shorter = omega (arith, ints, shorter)

-- a node that is not below the best stands for no shorter schedule
pub none_stands : (p : Problem) (best : Option ScheduleOf) (nodes : List Subproblem) → All (IsNodeOf p) nodes
    → All (λ node. ¬ IsUnder (ceiling_of best) node.bound) nodes → (s : List ℤ) → IsShorterThan best s
    → Any (λ node. NodeStandsFor node s) nodes → ⊥
none_stands p best nodes known over s shorter (k, node, l, e, stands) =
    let is : IsNodeOf p node = All-contains (IsNodeOf p) nodes node known (k, l, e) in
    All-contains (λ (n : Subproblem). ¬ IsUnder (ceiling_of best) n.bound) nodes node over (k, l, e)
    (under_best best node.bound s (is.is_node.true_bound s stands) shorter)

-- other nodes cover as much, as long as those that are below the best are among them
pub covered_still : (p : Problem) (best : Option ScheduleOf) (old new : List Subproblem) → All (IsNodeOf p) new
    → ((node : Subproblem) → Contains old node → IsUnder (ceiling_of best) node.bound → Contains new node)
    → IsCovered p best old → IsCovered p best new
covered_still p best old new nodes stays covered = record {
  of_best = covered.of_best;
  of_nodes = nodes;
  covers = λ s feasible shorter. still s shorter (covered.covers s feasible shorter);
}
  where
    still : (s : List ℤ) → IsShorterThan best s → Any (λ n. NodeStandsFor n s) old → Any (λ n. NodeStandsFor n s) new
    still s shorter (k, node, l, e, stands) =
        let is : IsNodeOf p node = All-contains (IsNodeOf p) old node covered.of_nodes (k, l, e) in
        let kept = stays node (k, l, e) (under_best best node.bound s (is.is_node.true_bound s stands) shorter) in
        (kept.0, node, kept.1, kept.2, stands)

child_is_node : (p : Problem) (node child : Subproblem) → node.project ≡ p → IsChildOf node child → IsNodeOf p child
child_is_node p node child e child_of = record { project = child_of.adds.project ∙ e; is_node = child_of.adds.is_node }

best_after : (p : Problem) (best after : Option ScheduleOf) (found : Option ScheduleOf) (node : Subproblem)
    → node.project ≡ p → IfSome best (IsScheduleFor p) → IfSome found (IsFoundFor node)
    → IfSome after (λ s. (Some s ≡ best) ⊎ (Some s ≡ found)) → IfSome after (IsScheduleFor p)
best_after p best None found node e of_best of_found from = tt
best_after p best (Some s) found node e of_best of_found from =
    ⊎_elim
    (λ (old : Some s ≡ best). subst (λ (o : Option ScheduleOf). IfSome o (IsScheduleFor p)) (sym old) of_best)
    (λ (new : Some s ≡ found). as_schedule (subst (λ (o : Option ScheduleOf). IfSome o (IsFoundFor node)) (sym new) of_found))
    from
  where
    as_schedule : IsFoundFor node s → IsScheduleFor p s
    as_schedule f = record { project = f.project ∙ e; feasible = subst (λ (q : Problem). IsFeasible q s.starts) e f.stands.feasible }

-- a node may be replaced by the children of a fair report on it, once what was found is counted, where each schedule that is
-- then still looked for is below the report's ceiling
pub expansion_keeps : (p : Problem) (best after : Option ScheduleOf) (nodes : List Subproblem) (node : Subproblem)
    (report : Expansion) → IsFair report → report.node.project ≡ p → node.pairs ≡ report.node.pairs
    → ((s : List ℤ) → IsShorterThan best s → IsBelow report.ceiling s) → IsShorterOf best report.found after
    → IsCovered p best (nodes ++ node ∷ []) → IsCovered p after (nodes ++ report.children)
expansion_keeps p best after nodes node report fair project pairs below shorter_of covered = record {
  of_best = best_after p best after report.found report.node project covered.of_best fair.of_found shorter_of.from;
  of_nodes = All-append (IsNodeOf p) nodes report.children (all_left (IsNodeOf p) nodes (node ∷ []) covered.of_nodes)
      (All-weaker (IsChildOf report.node) (IsNodeOf p) (λ child k. child_is_node p report.node child project k)
      report.children fair.of_children);
  covers = λ s feasible shorter.
      let before : IsShorterThan best s = shorter_of.than_best s shorter in
      ⊎_elim
      (λ (early : Any (λ n. NodeStandsFor n s) nodes). any_left (λ n. NodeStandsFor n s) nodes report.children early)
      (λ (last : NodeStandsFor node s). any_right (λ n. NodeStandsFor n s) nodes report.children
      (fair.covers s (of_report s last) (below s before) (shorter_of.than_found s shorter)))
      (any_cases (λ n. NodeStandsFor n s) nodes node (covered.covers s feasible before));
}
  where
    known : IsNodeOf p node
    known = All-contains (IsNodeOf p) (nodes ++ node ∷ []) node covered.of_nodes (Contains-push nodes node)

    of_report : (s : List ℤ) → NodeStandsFor node s → NodeStandsFor report.node s
    of_report s stands = rw (project, ← pairs) (rw known.project at stands)

-- the root stands for every feasible schedule
pub root_covers : (p : Problem) (root : Subproblem) → IsRootOf p root → IsCovered p None (root ∷ [])
root_covers p root is_root = record {
  of_best = tt;
  of_nodes = All-cons (IsNodeOf p) root [] is_root.of_project (All-nil (IsNodeOf p));
  covers = λ s feasible shorter.
      let all : NodeStandsFor root s = rw (is_root.no_pairs, is_root.of_project.project) (record { feasible = feasible; keeps = All-nil (Keeps p s) }) in
      let first = here root [] in
      (first.0, root, first.1, first.2, all);
}

-- where the rules close a walk of positive weight there is no schedule
pub none_on_cycle : (p : Problem) → HasPositiveCycle (arcs_of p []) → HasNoSchedule p
none_on_cycle p cycle s feasible = no_schedule_on_cycle p [] s cycle feasible.schedule (All-nil (Keeps p s))

-- what is at least the ceiling is not below it
pub reached_not_under : (ceiling : Option ℤ) (bound : ℤ) → Reaches ceiling bound → ¬ IsUnder ceiling bound
reached_not_under None bound reached = absurd reached
reached_not_under (Some c) bound reached = λ (under : bound <ℤ c). omega (arith, ints)

-- nor is a schedule that lasts at least as long
pub reached_over : (ceiling : Option ℤ) (bound : ℤ) (s : List ℤ) → Reaches ceiling bound → bound ≤ℤ makespan s → ¬ IsBelow ceiling s
reached_over None bound s reached long = absurd reached
reached_over (Some c) bound s reached long = λ (below : makespan s <ℤ c). omega (arith, ints)
