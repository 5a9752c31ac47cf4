use Rattle.lemma_log.specs.Reading.{signed_in}
use Rattle.lemma_log.proofs.Many.{IsHalfway}
use Rattle.lemma_log.proofs.lists.starts.Given as goal

abbrev pub invariant-loop-due : goal.invariant-loop-due
invariant-loop-due l = IsHalfway signed_in l.fn.count l.fn.bytes l.found.items l.due l.left

abbrev pub decreases-loop-due : goal.decreases-loop-due
decreases-loop-due l = l.due
