use Rattle.std.proofs.Common.{length}
use Rattle.lemma_log.proofs.Lined.{IsHalfway}
use Rattle.lemma_log.proofs.line.lines.Given as goal

abbrev pub invariant-loop-left : goal.invariant-loop-left
invariant-loop-left l = IsHalfway l.bytes l.found.items l.left

abbrev pub decreases-loop-left : goal.decreases-loop-left
decreases-loop-left l = length l.left
