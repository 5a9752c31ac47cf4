use Rattle.std.proofs.Common.{take}
use Rattle.std.specs.List.{AllByRecursion}
use Rattle.lemma_log.specs.Text.{IsWritableInterval}
use Rattle.lemma_log.proofs.writable.are_writable_intervals.Given as goal

abbrev pub invariant-loop-interval : goal.invariant-loop-interval
invariant-loop-interval l = AllByRecursion IsWritableInterval (take l.interval-index l.intervals)
