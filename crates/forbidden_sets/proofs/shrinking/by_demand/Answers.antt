use Rattle.std.proofs.Common.{◌<◌, ℕ, List, length, sym, subst, arith, pos, ◌≤ℤ◌, take_all}
use Rattle.network.specs.declared.limits.TheConstants.{MAX_AMOUNT}
use Rattle.std.specs.List.{All, AllPairs}
use Rattle.std.proofs.lemmas.List.Elements.{All-push}
use Rattle.std.proofs.lemmas.List.Sorted.{All-permutation}
use Rattle.network.specs.Problem.{demand}
use Rattle.forbidden_sets.specs.MinimalSet.{AreDemands, ComesBefore, Demand}
use Rattle.forbidden_sets.proofs.Shrunken.{sorted_by_demand, one_load, no_load, AreDemands-permutation, written_whole}
use Rattle.forbidden_sets.proofs.shrinking.by_demand.Goals as goal
use Rattle.forbidden_sets.proofs.shrinking.by_demand.Goals.{then-demand-gt0+in_ok-push, else-demand-gt0}

pub loop-activity-preserved : goal.loop-activity-preserved
loop-activity-preserved c =
    let r = demand c.args.project.now c.args.resource in
    let i = c.loop-activity.activity-index in
    let lt : i < length c.args.activities.now = omega arith in
    elim c.if-demand-gt0.branch [
      | then-demand-gt0+in_ok-push w ↦ record {
        loads = rw (w.loads-is, w.in_ok-push.ensures.ok)
            (one_load r c.args.activities.now i _ c.loop-activity.loads.items lt c.demand-demand.ensures.value
            c.loop-activity.invariant.loads);
        small = rw (w.loads-is, w.in_ok-push.ensures.ok)
            (All-push (λ (load : Demand). pos load.demand ≤ℤ MAX_AMOUNT) _ _ c.loop-activity.invariant.small
            c.demand-demand.ensures.amount);
      }
      | else-demand-gt0 w ↦ record {
        loads = rw w.loads-is (no_load r c.args.activities.now i c.loop-activity.loads.items lt
            (omega (arith, c.demand-demand.ensures.value, w.if-demand-gt0.false)) c.loop-activity.invariant.loads);
        small = rw w.loads-is c.loop-activity.invariant.small;
      }
    ]

pub returns-clause-loads : goal.returns-clause-loads
returns-clause-loads c =
    let r = demand c.args.project.now c.args.resource in
    let all : AreDemands r c.args.activities.now c.loop-activity.loads.items =
    subst (λ (xs : List ℕ). AreDemands r xs c.loop-activity.loads.items)
    (take_all c.loop-activity.activity-index c.args.activities.now (omega arith)) c.loop-activity.invariant.loads in
    subst (λ (xs : List Demand). AreDemands r c.args.activities.now xs)
    (sym (written_whole c.loop-activity.loads.items c.as_mut_slice.result.now c.sort_unstable.new.self
    c.as_mut_slice.ensures.value c.sort_unstable.ensures.len))
    (AreDemands-permutation r c.args.activities.now c.loop-activity.loads.items _ (rw c.as_mut_slice.ensures.value at c.sort_unstable.ensures.permutation) all)

pub returns-clause-small : goal.returns-clause-small
returns-clause-small c =
    subst (λ (xs : List Demand). All (λ load. pos load.demand ≤ℤ MAX_AMOUNT) xs)
    (sym (written_whole c.loop-activity.loads.items c.as_mut_slice.result.now c.sort_unstable.new.self
    c.as_mut_slice.ensures.value c.sort_unstable.ensures.len))
    (All-permutation (λ (load : Demand). pos load.demand ≤ℤ MAX_AMOUNT) c.loop-activity.loads.items _
    (rw c.as_mut_slice.ensures.value at c.sort_unstable.ensures.permutation) c.loop-activity.invariant.small)

pub returns-clause-order : goal.returns-clause-order
returns-clause-order c =
    subst (λ (xs : List Demand). AllPairs ComesBefore xs)
    (sym (written_whole c.loop-activity.loads.items c.as_mut_slice.result.now c.sort_unstable.new.self
    c.as_mut_slice.ensures.value c.sort_unstable.ensures.len))
    (sorted_by_demand c.sort_unstable.new.self c.sort_unstable.ensures.sorted)
