use Rattle.std.proofs.Common.{arith}
use Rattle.lemma_log.specs.Reading.{interval_in}
use Rattle.lemma_log.proofs.Many.{step}
use Rattle.lemma_log.proofs.intervals.intervals.Goals as goal

pub loop-due-preserved : goal.loop-due-preserved
loop-due-preserved c =
    rw c.in_ok-push.ensures.items (step interval_in _ _ c.loop-due.found.items c.loop-due.due c.loop-due.left.now
    c.in_ok-interval.interval c.in_ok-interval.rest.now c.loop-due.invariant (omega arith) c.in_ok-interval.ensures.found
    c.in_ok-interval.ensures.shorter)
