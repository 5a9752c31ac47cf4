-- What can be read off a ledger is true.
use Rattle.std.proofs.Common.{◌≡◌, ◌≢◌, refl, sym, ap, ◌∙◌, ℕ, suc, ◌≤◌, ◌+◌, ◌-◌, arith, ℤ, pos, ◌+ℤ◌, ◌≤ℤ◌, ◌<ℤ◌, List, length, Option, None, Some}
use Rattle.std.proofs.Common.{MatchOption, true, false, is_some}
use Rattle.std.specs.Int.{int_min}
use Rattle.std.specs.List.{Contains}
use Rattle.std.proofs.lemmas.Bool.{false≢true}
use Rattle.std.proofs.lemmas.Int.{ints, by_lt_z, clamps}
use Rattle.std.proofs.lemmas.List.Elements.{All-contains}
use Rattle.network.specs.declared.parts.Lag.{Lag}
use Rattle.network.specs.Problem.{IsProject, Problem, activity_count, end_of, rules, start_arc}
use Rattle.network.specs.Schedule.{start, HasNoSchedule, IsFeasible, IsLowerBound, IsShortest, Meets, makespan, IsTrueVerdict}
use Rattle.network.specs.Walk.{weight, HasNoPositiveCycle, HasPositiveCycle, IsGreatestWeight}
use Rattle.network.proofs.Schedules.{start_rule, walk_holds}
use Rattle.network.specs.Horizon.{horizon}
use Rattle.network.proofs.Sooner.{horizon_suffices}
use Rattle.longest_path.specs.Insert.{arc_of}
use Rattle.lemma_proof.proofs.Held.{not_both}
use Rattle.lemma_proof.specs.Reasons.{Implies}
use Rattle.lemma_proof.proofs.Weighing.{MeetsAll, implied_met}
use Rattle.network.specs.declared.verdict.Verdict.{Verdict}
use Rattle.network.specs.declared.verdict.Verdict.TheVariants as verdict
use Rattle.lemma_book.specs.Ledger.{Claims, IsBoundOf, IsSound, LedgerOf, ceiling, ceiling_of, own_of}

own_met : (l : LedgerOf) (s : List ℤ) → IsSound l → IsFeasible l.project s → makespan s <ℤ ceiling_of l → MeetsAll s (own_of l)
own_met l s sound feasible less e c = All-contains (Meets s) (own_of l) e (sound.roots s feasible less) c

-- where the root's arcs close a walk of positive weight, no schedule is in question
pub none_shorter : (l : LedgerOf) (s : List ℤ) → IsSound l → HasPositiveCycle (own_of l) → IsFeasible l.project s → ceiling_of l ≤ℤ makespan s
none_shorter l s sound cycle feasible =
    by_lt_z (makespan s) (ceiling_of l)
    (λ less.
    let h : (start s cycle.0 +ℤ weight cycle.1) ≤ℤ start s cycle.0 =
    walk_holds (own_of l) s (own_met l s sound feasible less) cycle.0 cycle.0 cycle.1 cycle.2.closed in
    let above : pos 0 <ℤ weight cycle.1 = cycle.2.positive in
    absurd (omega (arith, ints)))
    (λ reached. reached)

pub shortest : (l : LedgerOf) (starts : List ℤ) → l.best ≡ Some starts → IsSound l → HasPositiveCycle (own_of l) → IsShortest l.project (makespan starts)
shortest l starts best sound cycle =
    let feasible : IsFeasible l.project starts = rw best at sound.best in
    let is : ceiling_of l ≡ makespan starts = rw best refl in
    record { witness = (starts, feasible, refl); bound = λ s f. let reached = none_shorter l s sound cycle f in omega (arith, ints, is, reached) }

pub no_schedule : (l : LedgerOf) → IsProject l.project → l.best ≡ None → IsSound l → HasPositiveCycle (own_of l) → HasNoSchedule l.project
no_schedule l is best sound cycle = λ s feasible.
    let sooner = horizon_suffices l.project s is feasible in
    let top : ceiling_of l ≡ pos (horizon l.project + 1) = rw best refl in
    let reached = none_shorter l sooner.0 sound cycle sooner.1.feasible in
    omega (arith, ints, top, reached, sooner.1.in_time)

-- no schedule is shorter than the least end by the root, or than the ceiling
pub bounded : (l : LedgerOf) (least : ℤ) → IsSound l → Implies (own_of l) (arc_of 0 (end_of l.project) least)
    → IsLowerBound l.project (int_min least (ceiling_of l))
bounded l least sound implied s feasible =
    by_lt_z (makespan s) (ceiling_of l)
    (λ less.
    let met : (start s 0 +ℤ least) ≤ℤ start s (end_of l.project) =
    implied_met (own_of l) s (own_met l s sound feasible less) (arc_of 0 (end_of l.project) least) implied in
    let last : start s (end_of l.project) ≡ makespan s = ap (λ n. start s (n - 1)) (sym feasible.schedule.whole) in
    let first : start s 0 ≡ pos 0 = feasible.schedule.from_zero in
    omega (arith, ints, clamps))
    (λ reached. omega (arith, ints, clamps))

pub makespan_low : (p : Problem) (s : List ℤ) → 2 ≤ activity_count p → IsFeasible p s → pos 0 ≤ℤ makespan s
makespan_low p s two feasible =
    let b : ℕ = activity_count p - 2 in
    let there : Contains (rules p) (start_arc (suc b)) = start_rule p b (omega (arith, two)) in
    let met : Meets s (start_arc (suc b)) = All-contains (Meets s) (rules p) (start_arc (suc b)) feasible.schedule.rules_met there in
    let first : start s 0 ≡ pos 0 = feasible.schedule.from_zero in
    let last : length s - 1 ≡ suc b = let long = feasible.schedule.whole in omega (arith, two, long) in
    let is : makespan s ≡ start s (suc b) = ap (start s) last in
    omega (arith, ints)

-- ---- the bound

both : (arcs : List Lag) → HasNoPositiveCycle arcs → HasPositiveCycle arcs → ⊥
both arcs none cycle = not_both arcs none cycle

pub ended_bound : (l : LedgerOf) (bound : ℤ) → bound ≡ ceiling_of l → HasPositiveCycle (own_of l) → IsBoundOf l bound
ended_bound l bound is cycle = record { ended = λ _. is; going = λ none. absurd (both (own_of l) none cycle) }

pub ended_law : (l : LedgerOf) (bound : ℤ) → bound ≡ ceiling_of l → IsSound l → HasPositiveCycle (own_of l) → IsLowerBound l.project bound
ended_law l bound is sound cycle s feasible = let reached = none_shorter l s sound cycle feasible in omega (arith, ints, is, reached)

pub going_bound : (l : LedgerOf) (least bound : ℤ) → HasNoPositiveCycle (own_of l)
    → IsGreatestWeight (own_of l) 0 (end_of l.project) (Some least) → bound ≡ int_min least (ceiling_of l)
    → IsBoundOf l bound
going_bound l least bound none at is = record { ended = λ cycle. absurd (both (own_of l) none cycle); going = λ _. (least, at, is) }

least_implied : (own : List Lag) (a b : ℕ) (least : ℤ) → IsGreatestWeight own a b (Some least) → Implies own (arc_of a b least)
least_implied own a b least at =
    let sum : weight at.0.0 ≡ least = at.0.2 in
    record { walk = at.0.0; goes = at.0.1; weighs = omega (arith, ints) }

pub going_law : (l : LedgerOf) (least bound : ℤ) → IsSound l
    → IsGreatestWeight (own_of l) 0 (end_of l.project) (Some least) → bound ≡ int_min least (ceiling_of l)
    → IsLowerBound l.project bound
going_law l least bound sound at is = rw is (bounded l least sound (least_implied (own_of l) 0 (end_of l.project) least at))

-- ---- what is kept

pub least_ended : (own : List Lag) (end : ℕ) (least : Option ℤ) → is_some least ≡ false
    → MatchOption least (HasPositiveCycle own) (λ w. HasNoPositiveCycle own × IsGreatestWeight own 0 end (Some w))
    → HasPositiveCycle own
least_ended own end None none found = found
least_ended own end (Some w) none found = absurd (false≢true (sym none))

pub least_going : (own : List Lag) (end : ℕ) (least : Option ℤ) → is_some least ≡ true
    → MatchOption least (HasPositiveCycle own) (λ w. HasNoPositiveCycle own × IsGreatestWeight own 0 end (Some w))
    → HasNoPositiveCycle own
least_going own end None some found = absurd (false≢true some)
least_going own end (Some w) some found = found.0

pub some_there : {X : Type 0} (o : Option X) → is_some o ≡ true → (x : X) × (o ≡ Some x)
some_there None some = absurd (false≢true some)
some_there (Some x) some = (x, refl)

pub none_here : {X : Type 0} (o : Option X) → is_some o ≡ false → o ≡ None
none_here None none = refl
none_here (Some x) none = absurd (false≢true (sym none))

-- ---- what a sound ledger claims

some_best : (best : Option (List ℤ)) → best ≢ None → (starts : List ℤ) × (best ≡ Some starts)
some_best None some = absurd (some refl)
some_best (Some starts) some = (starts, refl)

optimal_true : (l : LedgerOf) (length : ℤ) → IsSound l → Claims l (verdict.Optimal length) → IsShortest l.project length
optimal_true l length sound claims =
    let best = some_best l.best claims.1 in
    let is : length ≡ makespan best.0 = claims.2 ∙ ap (ceiling l.project) best.1 in
    rw is (shortest l best.0 best.1 sound claims.0)

bound_true : (l : LedgerOf) (bound : ℤ) → IsSound l → Claims l (verdict.Bound bound) → IsLowerBound l.project bound
bound_true l bound sound claims =
    let going = claims.1.going claims.0 in
    rw going.2 (bounded l going.0 sound (least_implied (own_of l) 0 (end_of l.project) going.0 going.1))

pub claim_true : (l : LedgerOf) (what : Verdict) → IsProject l.project → IsSound l → Claims l what → IsTrueVerdict l.project what
claim_true l (verdict.Optimal length) is sound claims = optimal_true l length sound claims
claim_true l (verdict.Bound bound) is sound claims = bound_true l bound sound claims
claim_true l verdict.NoSchedule is sound claims = no_schedule l is claims.1 sound claims.0
