use Rattle.std.proofs.Common.{◌≡◌, ◌++◌, take}
use Rattle.std.specs.List.{flat_map}
use Rattle.lemma_log.specs.Text.{interval_text}
use Rattle.lemma_log.proofs.intervals.put_intervals.Given as goal

abbrev pub invariant-loop-interval : goal.invariant-loop-interval
invariant-loop-interval l = l.bytes.items ≡ l.fn.bytes.items ++ flat_map interval_text (take l.interval-index l.intervals)
