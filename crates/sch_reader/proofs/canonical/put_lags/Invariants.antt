use Rattle.std.proofs.Common.{◌≡◌, ◌++◌, take, map, string_bytes}
use Rattle.std.specs.List.{flat_map}
use Rattle.sch_reader.specs.Text.{tabbed, bracketed}
use Rattle.sch_reader.proofs.canonical.put_lags.Given as goal

abbrev pub invariant-loop-lag : goal.invariant-loop-lag
invariant-loop-lag l = string_bytes l.out ≡ string_bytes l.fn.out ++ flat_map tabbed (map (λ a. bracketed a.weight) (take l.lag-index l.lags))
