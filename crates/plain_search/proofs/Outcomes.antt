-- What the last state of a search proves: its outcome is true of the project.
use Rattle.std.proofs.Common.{◌≡◌, refl, ap, ◌∙◌, inl, inr, ⊎_elim, ◌⊎◌, ◌+◌, add-one, arith, List, [], Option, Some, None, ℕ, ℤ, ◌≤ℤ◌, ◌<ℤ◌, IfSome}
use Rattle.std.specs.List.{All, Any}
use Rattle.std.proofs.lemmas.Int.{ints, by_lt_z}
use Rattle.std.proofs.Math.ListN.{get_or-map}
use Rattle.std.proofs.lemmas.List.{length-map}
use Rattle.std.proofs.lemmas.List.Elements.{All-nil, All-contains, All-weaker}
use Rattle.network.specs.Problem.{Problem}
use Rattle.network.specs.Schedule.{ScheduleOf, IsFeasible, makespan, IsScheduleFor}
use Rattle.branching.specs.Subproblem.{Subproblem, NodeStandsFor}
use Rattle.branching.specs.Right.{IsUnder, IsLeast}
use Rattle.branching.specs.Fair.{IsShorterThan, IsNodeOf, IsRootOf, ceiling_of}
use Rattle.plain_search.specs.Takes.{bounds_of, SearchState, IsSoundState, IsTake, Takes, no_take, one_more, IsStillOpen, IsOutcomeOf, StopsOnlyAfter}
use Rattle.plain_search.specs.Takes.{first_state}
use Rattle.network.specs.Verdicts.{IsTrueOf, StopsBelowBest}
use Rattle.network.specs.declared.outcome.Outcome.{Outcome}
use Rattle.network.specs.declared.outcome.Outcome.TheVariants.{Optimal, NoSchedule, Stopped}
use Rattle.branching.proofs.Covers.{none_stands}
use Rattle.branching.proofs.OrderedPairs.{contains_map}

none_shorter : (state : SearchState) → IsSoundState state
    → All (λ node. ¬ IsUnder (ceiling_of state.best) node.bound) state.nodes → (s : List ℤ) → IsFeasible state.project s
    → IsShorterThan state.best s → ⊥
none_shorter state sound over s feasible shorter =
    none_stands state.project state.best state.nodes sound.of_nodes over s shorter (sound.covers s feasible shorter)

-- the least bound holds of each schedule that is shorter than the best
bound_holds : (state : SearchState) (bound : ℤ) → IsSoundState state → IsLeast (bounds_of state.nodes) (Some bound)
    → (s : List ℤ) → IsFeasible state.project s → IsShorterThan state.best s → bound ≤ℤ makespan s
bound_holds state bound sound low s feasible shorter = by_node (sound.covers s feasible shorter)
  where
    by_node : Any (λ n. NodeStandsFor n s) state.nodes → bound ≤ℤ makespan s
    by_node (k, node, l, e, stands) =
        let known : IsNodeOf state.project node = All-contains (IsNodeOf state.project) state.nodes node sound.of_nodes (k, l, e) in
        let above : node.bound ≤ℤ makespan s = known.is_node.true_bound s stands in
        let below : bound ≤ℤ node.bound = All-contains (λ (b : ℤ). bound ≤ℤ b) (bounds_of state.nodes) node.bound low.1
        (contains_map (λ (n : Subproblem). n.bound) state.nodes node (k, l, e)) in
        omega (arith, ints)

-- and of each other, where it is below the best
below_all : (best : Option ScheduleOf) (bound : ℤ) (s : List ℤ) → IsUnder (ceiling_of best) bound
    → (IsShorterThan best s → bound ≤ℤ makespan s) → bound ≤ℤ makespan s
below_all None bound s under holds = holds tt
below_all (Some best) bound s under holds = by_lt_z (makespan s) (makespan best.starts) (λ shorter. holds shorter) (λ longer. omega (arith, ints, under))

below_best : (best : Option ScheduleOf) (bound : ℤ) → IsUnder (ceiling_of best) bound → IfSome best (λ s. bound <ℤ makespan s.starts)
below_best None bound under = tt
below_best (Some best) bound under = under

pub outcome_true : (state : SearchState) (outcome : Outcome) → IsSoundState state → IsOutcomeOf state outcome → IsTrueOf state.project outcome
outcome_true state (Optimal best) sound (best_is, over) =
    let found : IsScheduleFor state.project best = rw best_is at sound.of_best in
    record {
      found = found;
      verdict = record {
        witness = (best.starts, found.feasible, refl);
        bound = λ s feasible.
            by_lt_z (makespan s) (makespan best.starts)
            (λ less. let shorter : IsShorterThan state.best s = rw best_is less in absurd (none_shorter state sound over s feasible shorter))
            (λ longer. longer);
      };
    }
outcome_true state NoSchedule sound (best_is, none) = record {
  found = tt;
  verdict = λ s feasible.
      let over : All (λ node. ¬ IsUnder (ceiling_of state.best) node.bound) state.nodes =
      rw none (All-nil (λ (n : Subproblem). ¬ IsUnder (ceiling_of state.best) n.bound)) in
      let shorter : IsShorterThan state.best s = rw best_is tt in
      none_shorter state sound over s feasible shorter;
}
outcome_true state (Stopped best bound) sound (best_is, left) =
    let stopped_at : IsTrueOf state.project (Stopped state.best bound) = record {
      found = sound.of_best;
      verdict = λ s feasible. below_all state.best bound s left.under (λ shorter. bound_holds state bound sound left.least s feasible shorter);
    } in
    rw best_is at stopped_at

-- ---- the outcomes of a state

lower : (best : Option ScheduleOf) (low high : ℤ) → low ≤ℤ high → IsUnder (ceiling_of best) high → IsUnder (ceiling_of best) low
lower None low high le under = tt
lower (Some best) low high le under = omega (arith, ints, under)

all_of_bounds : (P : ℤ → Type 0) (nodes : List Subproblem) → All P (bounds_of nodes) → All (λ (n : Subproblem). P n.bound) nodes
all_of_bounds P nodes all = λ k d low. rw (get_or-map (λ (n : Subproblem). n.bound) nodes k d) at
    (all k d.bound (rw (length-map nodes (λ (n : Subproblem). n.bound)) low))

-- where the least bound is not below the best, no node is
none_under : (best : Option ScheduleOf) (nodes : List Subproblem) (bound : ℤ) → IsLeast (bounds_of nodes) (Some bound)
    → ¬ IsUnder (ceiling_of best) bound → All (λ node. ¬ IsUnder (ceiling_of best) node.bound) nodes
none_under best nodes bound low over = all_of_bounds (λ (b : ℤ). ¬ IsUnder (ceiling_of best) b) nodes
    (All-weaker (λ (b : ℤ). bound ≤ℤ b) (λ (b : ℤ). ¬ IsUnder (ceiling_of best) b)
    (λ b above under. over (lower best bound b above under)) (bounds_of nodes) low.1)

pub stopped : (state : SearchState) (best : Option ScheduleOf) (bound : ℤ) → state.best ≡ best
    → IsLeast (bounds_of state.nodes) (Some bound) → IsUnder (ceiling_of best) bound
    → IsOutcomeOf state (Stopped best bound)
stopped state best bound best_is low under = (best_is, record { least = low; under = rw best_is under })

pub optimal : (state : SearchState) (best : ScheduleOf) (bound : ℤ) → state.best ≡ Some best
    → IsLeast (bounds_of state.nodes) (Some bound) → makespan best.starts ≤ℤ bound → IsOutcomeOf state (Optimal best)
optimal state best bound best_is low high = (best_is, none_under state.best state.nodes bound low (rw best_is (λ under. omega (arith, ints, under))))

pub stops_below : (state : SearchState) (outcome : Outcome) → IsOutcomeOf state outcome → StopsBelowBest outcome
stops_below state (Optimal best) of_state = tt
stops_below state NoSchedule of_state = tt
stops_below state (Stopped best bound) (best_is, left) = below_best best bound (rw best_is at left.under)

-- ---- the takes so far

-- so many nodes were taken from the root on, or no node is left
pub record HasTaken (p : Problem) (n : ℕ) (state : SearchState) : Type 0 where
  pub project : state.project ≡ p
  pub root : Subproblem
  pub is_root : IsRootOf p root
  pub taken : (state.nodes ≡ []) ⊎ Takes n (first_state p root) state

pub none_taken : (p : Problem) (root : Subproblem) (state : SearchState) → IsRootOf p root → state ≡ first_state p root → HasTaken p 0 state
none_taken p root state is_root first = record {
  project = ap (λ (s : SearchState). s.project) first;
  root = root;
  is_root = is_root;
  taken = inr (rw first (no_take (first_state p root)));
}

pub one_taken : (p : Problem) (n : ℕ) (old new : SearchState) → HasTaken p n old → ¬ (old.nodes ≡ [])
    → new.project ≡ old.project → (new.nodes ≡ []) ⊎ IsTake old new → HasTaken p (n + 1) new
one_taken p n old new so_far some project step = record {
  project = project ∙ so_far.project;
  root = so_far.root;
  is_root = so_far.is_root;
  taken =
      ⊎_elim
      (λ (none : new.nodes ≡ []). inl none)
      (λ (take : IsTake old new).
      ⊎_elim
      (λ (done : old.nodes ≡ []). absurd (some done))
      (λ (takes : Takes n (first_state p so_far.root) old). inr (rw (add-one n) (one_more n (first_state p so_far.root) old new takes take)))
      so_far.taken)
      step;
}

-- a state without nodes is not that of a search that was stopped
none_stopped : (state : SearchState) (bound : ℤ) → state.nodes ≡ [] → IsStillOpen state bound → ⊥
none_stopped state bound none left =
    let some : IsLeast (bounds_of []) (Some bound) = rw none at left.least in
    absurd (omega (arith, some.0.1))

pub stops_after : (p : Problem) (n takes : ℕ) (state : SearchState) (outcome : Outcome) → HasTaken p n state
    → (state.nodes ≡ []) ⊎ (n ≡ takes) → IsOutcomeOf state outcome → StopsOnlyAfter p takes outcome
stops_after p n takes state (Optimal best) so_far ends of_state = tt
stops_after p n takes state NoSchedule so_far ends of_state = tt
stops_after p n takes state (Stopped best bound) so_far ends of_state =
    ⊎_elim
    (λ (none : state.nodes ≡ []). absurd (none_stopped state bound none of_state.1))
    (λ (all : n ≡ takes).
    ⊎_elim
    (λ (none : state.nodes ≡ []). absurd (none_stopped state bound none of_state.1))
    (λ (taken : Takes n (first_state p so_far.root) state).
    record { root = so_far.root; is_root = so_far.is_root; last = state; taken = rw all at taken; outcome_of = of_state })
    so_far.taken)
    ends
