use Rattle.std.proofs.Common.{◌≡◌, ◌≤◌, ◌*◌, take, unsigned_abs}
use Rattle.std.specs.List.{sum_by}
use Rattle.network.specs.declared.limits.TheConstants.{MAX_AMOUNT}
use Rattle.forbidden_sets.proofs.shrinking.total.Given as goal

abbrev pub invariant-loop-load : goal.invariant-loop-load
invariant-loop-load l = record {
  so_far : l.total ≡ sum_by (λ load. load.demand) (take l.load-index l.loads);
  small : l.total ≤ l.load-index * unsigned_abs MAX_AMOUNT;
}
