use Rattle.std.proofs.Common.{◌<◌, length, rules}
use Rattle.lemma_log.proofs.Lined.{step}
use Rattle.lemma_log.proofs.line.lines.Goals as goal

pub loop-left-preserved : goal.loop-left-preserved
loop-left-preserved c =
    let some : 0 < length c.loop-left.left.now = search rules in
    rw c.in_ok-push.ensures.items (step c.args.bytes.now c.loop-left.found.items c.loop-left.left.now c.in_ok-line.line
    c.in_ok-line.rest.now c.loop-left.invariant some c.in_ok-line.ensures.found c.in_ok-line.ensures.shorter)
