use Rattle.std.proofs.Common.{take, pos, ◌≤ℤ◌}
use Rattle.network.specs.declared.limits.TheConstants.{MAX_AMOUNT}
use Rattle.std.specs.List.{All}
use Rattle.network.specs.Problem.{demand}
use Rattle.forbidden_sets.specs.MinimalSet.{AreDemands}
use Rattle.forbidden_sets.proofs.shrinking.by_demand.Given as goal

abbrev pub invariant-loop-activity : goal.invariant-loop-activity
invariant-loop-activity l = record {
  loads : AreDemands (demand l.project l.resource) (take l.activity-index l.activities) l.loads.items;
  small : All (λ load. pos load.demand ≤ℤ MAX_AMOUNT) l.loads.items;
}
