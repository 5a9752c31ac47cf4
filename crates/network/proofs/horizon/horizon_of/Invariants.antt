use Rattle.std.proofs.Common.{◌≡◌, ◌*◌, ◌≤ℤ◌, pos}
use Rattle.std.specs.List.{range_with_len, sum_by}
use Rattle.network.specs.Horizon.{stretch}
use Rattle.network.proofs.horizon.horizon_of.Given as goal

-- the stretches so far, each of which is small
abbrev pub invariant-loop-activity : goal.invariant-loop-activity
invariant-loop-activity l = record {
  so_far : l.sum ≡ pos (sum_by (stretch l.project) (range_with_len 0 l.activity));
  small : l.sum ≤ℤ pos (1000000 * l.activity);
}
