use Rattle.std.proofs.Common.{Bool, List, take}
use Rattle.std.specs.List.{All}
use Rattle.network.specs.declared.parts.Lag.{Lag}
use Rattle.network.specs.Problem.{activity_count}
use Rattle.lemma_proof.specs.Reasons.{IsKnown, RunApart}
use Rattle.lemma_proof.proofs.clique.all_run_apart.Given as goal

abbrev pub invariant-loop-other : goal.invariant-loop-other
invariant-loop-other l = (exact : Bool) (arcs : List Lag) → IsKnown exact (activity_count l.project) arcs l.weights
    → All (λ i. RunApart l.project arcs i l.activity) (take l.other-index l.others)
