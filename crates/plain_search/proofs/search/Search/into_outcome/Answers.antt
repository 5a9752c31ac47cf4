use Rattle.std.proofs.Common.{subst, rules, Some, None, map, arith, w64, ◌≤ℤ◌, ◌<ℤ◌, SFits}
use Rattle.std.proofs.lemmas.Int.{ints, to_z-of_z}
use Rattle.std.specs.Arc.{arc_value}
use Rattle.network.specs.Schedule.{makespan}
use Rattle.branching.specs.Right.{IsLeast}
use Rattle.plain_search.specs.Takes.{SearchState, IsSoundState, bounds_of, IsOutcomeOf}
pub use Rattle.network.specs.declared.outcome.Outcome.TheVariants.{Optimal, Stopped}
use Rattle.plain_search.proofs.Outcomes.{stopped, optimal, outcome_true}
use Rattle.plain_search.proofs.search.Search.into_outcome.Goals as goal

pub returns-then-bound-makespan : goal.returns-then-bound-makespan
returns-then-bound-makespan c =
    let fits : SFits w64 c.in-Some-Some.bound = search rules in
    let state : SearchState = record { project = c.self.inside.project.value; best = c.self.inside.best; nodes = map arc_value c.self.inside.stack.items } in
    let low : IsLeast (bounds_of state.nodes) (Some c.in-Some-Some.bound) = rw (c.in-Some-Some.is-1, c.as_slice.ensures.value) at c.least_bound-least.ensures in
    let below : c.in-Some-Some.bound <ℤ makespan c.in-Some-Some.best.starts = omega (arith, ints, c.if-bound-makespan.true, c.makespan.ensures.makespan) in
    let outcome : IsOutcomeOf c.args.self (Stopped (Some c.in-Some-Some.best) c.in-Some-Some.bound) =
    subst (λ (s : SearchState). IsOutcomeOf s (Stopped (Some c.in-Some-Some.best) c.in-Some-Some.bound))
    c.self.view_is (stopped state (Some c.in-Some-Some.best) c.in-Some-Some.bound c.in-Some-Some.is-0 low below) in
    let sound : IsSoundState c.args.self = subst IsSoundState c.self.view_is c.self.invariant in
    simp to_z-of_z (record { outcome = outcome; true_of = outcome_true c.args.self (Stopped (Some c.in-Some-Some.best) c.in-Some-Some.bound) sound outcome })

pub returns-in-Some-Some : goal.returns-in-Some-Some
returns-in-Some-Some c =
    let state : SearchState = record { project = c.self.inside.project.value; best = c.self.inside.best; nodes = map arc_value c.self.inside.stack.items } in
    let low : IsLeast (bounds_of state.nodes) (Some c.in-Some-Some.bound) = rw (c.in-Some-Some.is-1, c.as_slice.ensures.value) at c.least_bound-least.ensures in
    let high : makespan c.in-Some-Some.best.starts ≤ℤ c.in-Some-Some.bound = omega (arith, ints, c.if-bound-makespan.false, c.makespan.ensures.makespan) in
    let outcome : IsOutcomeOf c.args.self (Optimal c.in-Some-Some.best) =
    subst (λ (s : SearchState). IsOutcomeOf s (Optimal c.in-Some-Some.best)) c.self.view_is
    (optimal state c.in-Some-Some.best c.in-Some-Some.bound c.in-Some-Some.is-0 low high) in
    let sound : IsSoundState c.args.self = subst IsSoundState c.self.view_is c.self.invariant in
    record { outcome = outcome; true_of = outcome_true c.args.self (Optimal c.in-Some-Some.best) sound outcome }

pub returns-in-None-Some : goal.returns-in-None-Some
returns-in-None-Some c =
    let fits : SFits w64 c.in-None-Some.bound = search rules in
    let state : SearchState = record { project = c.self.inside.project.value; best = c.self.inside.best; nodes = map arc_value c.self.inside.stack.items } in
    let low : IsLeast (bounds_of state.nodes) (Some c.in-None-Some.bound) = rw (c.in-None-Some.is-1, c.as_slice.ensures.value) at c.least_bound-least.ensures in
    let outcome : IsOutcomeOf c.args.self (Stopped None c.in-None-Some.bound) =
    subst (λ (s : SearchState). IsOutcomeOf s (Stopped None c.in-None-Some.bound)) c.self.view_is
    (stopped state None c.in-None-Some.bound c.in-None-Some.is-0 low tt) in
    let sound : IsSoundState c.args.self = subst IsSoundState c.self.view_is c.self.invariant in
    simp to_z-of_z (record { outcome = outcome; true_of = outcome_true c.args.self (Stopped None c.in-None-Some.bound) sound outcome })
