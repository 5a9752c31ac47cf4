use Rattle.std.proofs.Common.{◌≡◌, ◌-◌, ◌+◌}
use Rattle.network.specs.declared.limits.TheConstants.{MAX_LAGS}
use Rattle.sch_reader.specs.Layout.{network_rows}
use Rattle.sch_reader.specs.Reading.{reading}
use Rattle.sch_reader.proofs.Readings.{networks_so_far}
use Rattle.sch_reader.proofs.text.network_rows.Given as goal

abbrev pub invariant-loop-row : goal.invariant-loop-row
invariant-loop-row l = networks_so_far l.lags.items (l.activities + 2 - l.row) (l.activities + 1) l.row l.reader ≡
    reading (network_rows (l.activities + 2) (l.activities + 1) MAX_LAGS 0) l.fn.reader
