use Rattle.std.proofs.Common.{arith}
use Rattle.lemma_log.specs.Reading.{number_in}
use Rattle.lemma_log.proofs.Many.{step}
use Rattle.lemma_log.proofs.members.members.Goals as goal

pub loop-due-preserved : goal.loop-due-preserved
loop-due-preserved c =
    rw c.in_ok-push.ensures.items (step number_in _ _ c.loop-due.found.items c.loop-due.due c.loop-due.left.now
    c.in_ok-member.member c.in_ok-member.rest.now c.loop-due.invariant (omega arith) c.in_ok-member.ensures.found
    c.in_ok-member.ensures.shorter)
