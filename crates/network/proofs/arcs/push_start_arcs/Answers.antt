use Rattle.std.proofs.Common.{arith, refl, ◌+◌}
use Rattle.network.specs.Problem.{start_arc}
use Rattle.network.proofs.FaultLaws.{appended_more}
use Rattle.network.proofs.arcs.push_start_arcs.Goals as goal

pub loop-i-preserved : goal.loop-i-preserved
loop-i-preserved c =
    appended_more start_arc 1 c.loop-i.i (c.loop-i.i + 1) _ c.args.arcs.now.items c.loop-i.arcs.items
    c.push.new.self.items c.loop-i.invariant c.in_ok-push.ensures.items (omega arith) refl
