use Rattle.lemma_log.specs.Reading.{interval_in}
use Rattle.lemma_log.proofs.Many.{IsHalfway}
use Rattle.lemma_log.proofs.intervals.intervals.Given as goal

abbrev pub invariant-loop-due : goal.invariant-loop-due
invariant-loop-due l = IsHalfway interval_in l.fn.count l.fn.bytes l.found.items l.due l.left

abbrev pub decreases-loop-due : goal.decreases-loop-due
decreases-loop-due l = l.due
