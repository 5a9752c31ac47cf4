use Rattle.std.proofs.Common.{arith, rules, get_or, pos, w64, SFits}
use Rattle.std.proofs.lemmas.Int.{to_z-of_z}
use Rattle.network.specs.Problem.{lasting}
use Rattle.network.proofs.FaultLaws.{appended_more}
use Rattle.network.proofs.arcs.push_end_arcs.Goals as goal

pub loop-i-preserved : goal.loop-i-preserved
loop-i-preserved c =
    let fits : SFits w64 (get_or c.args.durations.now c.loop-i.i (pos 0)) = search rules in
    appended_more (λ i. lasting c.args.durations.now i c.args.end) 0 c.loop-i.i c.loop-i.i _ c.args.arcs.now.items
    c.loop-i.arcs.items c.push.new.self.items c.loop-i.invariant c.in_ok-push.ensures.items (omega arith)
    (simp to_z-of_z)
