use Rattle.std.proofs.Common.{Bool, List, length, IfSome}
use Rattle.std.specs.List.{Contains}
use Rattle.network.specs.declared.parts.Lag.{Lag}
use Rattle.lemma_proof.specs.Reasons.{IsKnown}
use Rattle.lemma_proof.proofs.OneLeft.{LeftBefore}
use Rattle.lemma_proof.proofs.left.arc_left.Given as goal

abbrev pub invariant-loop-arc : goal.invariant-loop-arc
invariant-loop-arc l =
    IfSome l.left (Contains l.lemma)
    × ((exact : Bool) (arcs : List Lag) → IsKnown exact (length l.weights.rows) arcs l.weights → LeftBefore exact arcs l.lemma l.arc-index l.left)
