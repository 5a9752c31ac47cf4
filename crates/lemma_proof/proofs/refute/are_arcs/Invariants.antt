use Rattle.std.proofs.Common.{take}
use Rattle.std.specs.List.{All}
use Rattle.lemma_proof.specs.Lines.{IsArc}
use Rattle.lemma_proof.proofs.refute.are_arcs.Given as goal

abbrev pub invariant-loop-arc : goal.invariant-loop-arc
invariant-loop-arc l = All (IsArc l.project) (take l.arc-index l.arcs)
