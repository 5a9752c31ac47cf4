use Rattle.std.proofs.Common.{ℕ, List, length}
use Rattle.network.specs.Problem.{Problem}
use Rattle.lemma_record.specs.Reached.{IsAt}
use Rattle.lemma_record.proofs.next.take_whole.Given as goal

abbrev pub invariant-loop-claim : goal.invariant-loop-claim
invariant-loop-claim l = (p : Problem) (text : List ℕ) → IsAt l.part p text l.fn.draft l.bytes l.due → IsAt l.part p text l.draft l.left l.next

abbrev pub decreases-loop-claim : goal.decreases-loop-claim
decreases-loop-claim l = length l.left
