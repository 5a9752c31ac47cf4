use Rattle.std.proofs.Common.{pos}
use Rattle.std.proofs.lemmas.List.Elements.{All-more}
use Rattle.network.specs.declared.parts.Lag.{Lag}
use Rattle.lemma_proof.specs.Lines.{IsArc}
use Rattle.lemma_proof.proofs.Loops.{none_fails, tells_both}
use Rattle.lemma_proof.proofs.refute.are_arcs.Goals as goal

pub loop-arc-preserved : goal.loop-arc-preserved
loop-arc-preserved c =
    let d : Lag = record { from = 0; to = 0; weight = pos 0 } in
    All-more (IsArc c.args.project.now) c.args.arcs.now c.loop-arc.arc-index d c.loop-arc-test.true c.loop-arc.invariant
    (c.is_arc.ensures.0 c.if-not-is_arc.false)

pub returns : goal.returns
returns c = tells_both (none_fails (IsArc c.args.project.now) c.args.arcs.now c.loop-arc.arc-index c.loop-arc-test.false c.loop-arc.invariant)
