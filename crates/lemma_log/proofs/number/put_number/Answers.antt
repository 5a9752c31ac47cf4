use Rattle.std.proofs.Common.{arith}
use Rattle.lemma_log.proofs.Digits.{more_written}
use Rattle.lemma_log.proofs.number.put_number.Goals as goal

pub loop-left-preserved : goal.loop-left-preserved
loop-left-preserved c = rw c.in_ok-push.ensures.items
    (more_written c.loop-left.bytes.items _ c.loop-left.left (omega arith) (omega arith) c.loop-left.invariant)
