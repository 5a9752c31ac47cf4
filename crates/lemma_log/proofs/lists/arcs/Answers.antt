use Rattle.std.proofs.Common.{arith}
use Rattle.lemma_log.specs.Reading.{arc_in}
use Rattle.lemma_log.proofs.Many.{step}
use Rattle.lemma_log.proofs.lists.arcs.Goals as goal

pub loop-due-preserved : goal.loop-due-preserved
loop-due-preserved c =
    rw c.in_ok-push.ensures.items (step arc_in _ _ c.loop-due.found.items c.loop-due.due c.loop-due.left.now
    c.in_ok-arc.arc c.in_ok-arc.rest.now c.loop-due.invariant (omega arith) c.in_ok-arc.ensures.found
    c.in_ok-arc.ensures.shorter)
