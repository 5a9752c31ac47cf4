use Rattle.std.proofs.Common.{◌≡◌, ◌++◌}
use Rattle.lemma_log.specs.Numbers.{number_text}
use Rattle.lemma_log.proofs.number.put_number.Given as goal

abbrev pub invariant-loop-left : goal.invariant-loop-left
invariant-loop-left l = l.bytes.items ++ number_text l.left ≡ l.fn.bytes.items ++ number_text l.fn.number

abbrev pub decreases-loop-left : goal.decreases-loop-left
decreases-loop-left l = l.left
