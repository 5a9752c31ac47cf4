-- What a sound state says of its project.
use Rattle.std.proofs.Common.{◌≡◌, ◌<ℤ◌, ◌≤ℤ◌, zero, suc, ℤ, List, [], ◌∷◌, ◌++◌, Option, Some, None, refl, sym, ap, subst, length, arith, IfSome}
use Rattle.std.specs.List.{All, Any, Contains}
use Rattle.std.specs.Option.{option_to_list}
use Rattle.std.proofs.lemmas.Int.{ints, by_lt_z}
use Rattle.std.proofs.lemmas.List.Elements.{All-head, All-map, All-contains}
use Rattle.network.specs.Problem.{Problem}
use Rattle.network.specs.Schedule.{ScheduleOf, IsFeasible, makespan, HasNoSchedule, IsTrueVerdict, IsScheduleFor}
use Rattle.branching.specs.Subproblem.{Subproblem, NodeStandsFor}
use Rattle.branching.specs.Fair.{IsNodeOf, ceiling_of, IsShorterThan}
use Rattle.branching.specs.Right.{IsLeast}
use Rattle.book.specs.State.{Named, BookState, live, best_makespan}
use Rattle.book.specs.Sound.{nodes_of, IsSound, bounds_of, known_bounds, IsBoundFor, IsVerdictOf}
use Rattle.network.specs.declared.verdict.Verdict.{Verdict}
use Rattle.network.specs.declared.verdict.Verdict.TheVariants as verdict
use Rattle.book.proofs.Names.{all_right, all_unmapped, none_of_nothing}

-- a schedule below each bound is shorter than the best
below_is_shorter : (best : Option ScheduleOf) (bound : ℤ) (others : List ℤ) (s : List ℤ)
    → All (λ n. bound ≤ℤ n) (option_to_list (ceiling_of best) ++ others) → makespan s <ℤ bound → IsShorterThan best s
below_is_shorter None bound others s all below = tt
below_is_shorter (Some best) bound others s all below = let first = All-head (λ n. bound ≤ℤ n) (makespan best.starts) others all in omega (arith, ints)

-- no node stands for a schedule below all bounds
none_below : (s : BookState) (bound : ℤ) → IsSound s → All (λ n. bound ≤ℤ n) (known_bounds s) → (starts : List ℤ)
    → IsFeasible s.project starts → makespan starts <ℤ bound → ⊥
none_below s bound sound all starts feasible below =
    by_node (sound.covered.covers starts feasible (below_is_shorter s.best bound (bounds_of (live s)) starts all below))
  where
    bounds : All (λ (n : Subproblem). bound ≤ℤ n.bound) (nodes_of (live s))
    bounds =
        All-map (λ (n : Subproblem). bound ≤ℤ n.bound) (λ (n : Named). n.node) (live s)
        (all_unmapped (λ n. bound ≤ℤ n) (λ (n : Named). n.node.bound) (live s)
        (all_right (λ n. bound ≤ℤ n) (option_to_list (best_makespan s)) (bounds_of (live s)) all))

    by_node : Any (λ n. NodeStandsFor n starts) (nodes_of (live s)) → ⊥
    by_node (k, node, l, e, stands) =
        let known : IsNodeOf s.project node = All-contains (IsNodeOf s.project) (nodes_of (live s)) node sound.covered.of_nodes (k, l, e) in
        let least : bound ≤ℤ node.bound = All-contains (λ (n : Subproblem). bound ≤ℤ n.bound) (nodes_of (live s)) node bounds (k, l, e) in
        let true_bound = known.is_node.true_bound starts stands in
        omega (arith, ints)

-- with no node left no feasible schedule is shorter than the best
none_shorter : (s : BookState) → IsSound s → live s ≡ [] → (starts : List ℤ) → IsFeasible s.project starts → IsShorterThan s.best starts → ⊥
none_shorter s sound over starts feasible shorter =
    none_of_nothing (λ n. NodeStandsFor n starts)
    (subst (λ (ns : List Named). Any (λ n. NodeStandsFor n starts) (nodes_of ns)) over
    (sound.covered.covers starts feasible shorter))

no_best : (best : Option ScheduleOf) → ceiling_of best ≡ None → best ≡ None
no_best None e = refl
no_best (Some best) e = absurd (cc)

-- with no node left and no best there is no schedule
none_feasible : (s : BookState) → IsSound s → live s ≡ [] → best_makespan s ≡ None → HasNoSchedule s.project
none_feasible s sound over none starts feasible =
    none_shorter s sound over starts feasible
    (subst (λ (o : Option ScheduleOf). IsShorterThan o starts) (sym (no_best s.best none)) tt)

no_bounds : (limit : Option ℤ) (others : List ℤ) → option_to_list limit ++ others ≡ [] → (limit ≡ None) × (others ≡ [])
no_bounds None others e = (refl, e)
no_bounds (Some limit) others e = absurd (cc)

no_nodes : (nodes : List Named) → bounds_of nodes ≡ [] → nodes ≡ []
no_nodes [] e = refl
no_nodes (n ∷ ns) e = absurd (cc)

pub nothing_known : (s : BookState) → known_bounds s ≡ [] → (best_makespan s ≡ None) × (live s ≡ [])
nothing_known s e =
    let parts = no_bounds (best_makespan s) (bounds_of (live s)) e in
    (parts.0, no_nodes (live s) parts.1)

best_alone : (limit : Option ℤ) (bound : ℤ) → Contains (option_to_list limit ++ []) bound → limit ≡ Some bound
best_alone None bound (k, l, e) = absurd (omega arith)
best_alone (Some length) bound (zero, l, e) = ap (λ (n : ℤ). let o : Option ℤ = Some n in o) e
best_alone (Some length) bound (suc k, l, e) = absurd (omega arith)

-- with no node left the least bound is the best makespan
pub bound_is_best : (s : BookState) (bound : ℤ) → live s ≡ [] → IsLeast (known_bounds s) (Some bound) → best_makespan s ≡ Some bound
bound_is_best s bound over least = best_alone (best_makespan s) bound
    (subst (λ (ns : List Named). Contains (option_to_list (best_makespan s) ++ bounds_of ns) bound) over least.0)

-- the least bound holds of every feasible schedule
pub least_holds : (s : BookState) (least : Option ℤ) → IsSound s → IsLeast (known_bounds s) least → IsBoundFor s.project least
least_holds s None sound e = let none = nothing_known s e in none_feasible s sound none.1 none.0
least_holds s (Some bound) sound least = λ starts feasible.
    by_lt_z (makespan starts) bound (λ below. absurd (none_below s bound sound least.1 starts feasible below))
    (λ above. omega (arith, ints))

reached : (p : Problem) (best : Option ScheduleOf) (length : ℤ) → IfSome best (IsScheduleFor p)
    → ceiling_of best ≡ Some length → (s : List ℤ) × IsFeasible p s × (makespan s ≡ length)
reached p None length of_best e = absurd (cc)
reached p (Some best) length of_best e = (best.starts, of_best.feasible, cc)

longer : (best : Option ScheduleOf) (length : ℤ) (s : List ℤ) → ceiling_of best ≡ Some length → makespan s <ℤ length → IsShorterThan best s
longer None length s e below = absurd (cc)
longer (Some best) length s e below = let same : makespan best.starts ≡ length = cc in omega (arith, ints)

-- the verdict of a sound state is true
pub verdict_true : (s : BookState) (v : Verdict) → IsSound s → IsVerdictOf s v → IsTrueVerdict s.project v
verdict_true s (verdict.Optimal length) sound (over, best) = record {
  witness = reached s.project s.best length sound.covered.of_best best;
  bound = λ starts feasible. by_lt_z (makespan starts) length
      (λ below. absurd (none_shorter s sound over starts feasible (longer s.best length starts best below)))
      (λ above. omega (arith, ints));
}
verdict_true s verdict.NoSchedule sound (over, none) = none_feasible s sound over none
verdict_true s (verdict.Bound bound) sound (some, least) = least_holds s (Some bound) sound least
