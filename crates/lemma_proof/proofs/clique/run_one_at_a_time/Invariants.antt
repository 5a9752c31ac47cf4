use Rattle.std.proofs.Common.{Bool, List}
use Rattle.network.specs.declared.parts.Lag.{Lag}
use Rattle.network.specs.Problem.{activity_count}
use Rattle.lemma_proof.specs.Reasons.{IsKnown, RunApart}
use Rattle.lemma_proof.proofs.Loops.{BeforeAre}
use Rattle.lemma_proof.proofs.clique.run_one_at_a_time.Given as goal

abbrev pub invariant-loop-place : goal.invariant-loop-place
invariant-loop-place l = (exact : Bool) (arcs : List Lag) → IsKnown exact (activity_count l.project) arcs l.weights
    → BeforeAre (RunApart l.project arcs) l.members l.place
