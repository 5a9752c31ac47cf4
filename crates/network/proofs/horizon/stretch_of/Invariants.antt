use Rattle.std.proofs.Common.{◌≡◌, ◌==◌, map, take}
use Rattle.std.specs.Int.{int_max}
use Rattle.std.specs.List.{filter, fold}
use Rattle.network.specs.Problem.{duration, IsAmount}
use Rattle.network.proofs.horizon.stretch_of.Given as goal

-- the greatest so far
abbrev pub invariant-loop-lag : goal.invariant-loop-lag
invariant-loop-lag l = record {
  so_far : l.longest ≡ fold int_max (duration l.project l.activity)
      (map (λ e. e.weight) (filter (λ e. e.from == l.activity) (take l.lag-index l.project.lags)));
  amount : IsAmount l.longest;
}
