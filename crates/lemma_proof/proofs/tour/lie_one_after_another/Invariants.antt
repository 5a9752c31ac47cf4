use Rattle.std.proofs.Common.{Bool, List}
use Rattle.network.specs.declared.parts.Lag.{Lag}
use Rattle.network.specs.Problem.{activity_count}
use Rattle.lemma_proof.specs.Reasons.{IsKnown}
use Rattle.lemma_proof.specs.Tours.{LieApart}
use Rattle.lemma_proof.proofs.Loops.{BeforeAre}
use Rattle.lemma_proof.proofs.tour.lie_one_after_another.Given as goal

abbrev pub invariant-loop-place : goal.invariant-loop-place
invariant-loop-place l = (exact : Bool) (arcs : List Lag) → IsKnown exact (activity_count l.project) arcs l.weights
    → BeforeAre (LieApart l.lemmas arcs) l.intervals l.place
