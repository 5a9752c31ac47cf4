use Rattle.std.proofs.Common.{arith, rules, SFits, w64}
use Rattle.std.proofs.lemmas.Int.{to_z-of_z}
use Rattle.lemma_log.specs.Reading.{signed_in}
use Rattle.lemma_log.proofs.Many.{step}
use Rattle.lemma_log.proofs.lists.starts.Goals as goal

pub loop-due-preserved : goal.loop-due-preserved
loop-due-preserved c =
    let fits : SFits w64 c.in_ok-start.start = search rules in
    rw (c.in_ok-push.ensures.items, to_z-of_z w64 c.in_ok-start.start fits)
    (step signed_in _ _ c.loop-due.found.items c.loop-due.due c.loop-due.left.now c.in_ok-start.start
    c.in_ok-start.rest.now c.loop-due.invariant (omega arith) c.in_ok-start.ensures.found
    c.in_ok-start.ensures.shorter)
