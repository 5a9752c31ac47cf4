use Rattle.std.proofs.Common.{◌≡◌, drop}
use Rattle.sch_reader.specs.Layout.{lags_to}
use Rattle.sch_reader.specs.Reading.{reading}
use Rattle.sch_reader.proofs.Readings.{lags_so_far}
use Rattle.sch_reader.proofs.text.lags_to.Given as goal

abbrev pub invariant-loop-end : goal.invariant-loop-end
invariant-loop-end l = lags_so_far l.lags.items l.from (drop l.end-index l.ends) l.reader ≡ reading (lags_to l.from l.ends) l.fn.reader
