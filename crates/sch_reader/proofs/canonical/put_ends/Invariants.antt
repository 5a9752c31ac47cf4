use Rattle.std.proofs.Common.{◌≡◌, ◌++◌, take, map, string_bytes}
use Rattle.std.specs.List.{flat_map}
use Rattle.std.specs.Fmt.{decimal}
use Rattle.sch_reader.specs.Text.{tabbed}
use Rattle.sch_reader.proofs.canonical.put_ends.Given as goal

abbrev pub invariant-loop-lag : goal.invariant-loop-lag
invariant-loop-lag l = string_bytes l.out ≡ string_bytes l.fn.out ++ flat_map tabbed (map (λ a. decimal a.to) (take l.lag-index l.lags))
