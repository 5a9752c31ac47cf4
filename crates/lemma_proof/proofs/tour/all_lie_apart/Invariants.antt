use Rattle.std.proofs.Common.{Bool, List, take}
use Rattle.std.specs.List.{All}
use Rattle.network.specs.declared.parts.Lag.{Lag}
use Rattle.network.specs.Problem.{activity_count}
use Rattle.lemma_proof.specs.Reasons.{IsKnown}
use Rattle.lemma_proof.specs.Tours.{LieApart}
use Rattle.lemma_proof.proofs.tour.all_lie_apart.Given as goal

abbrev pub invariant-loop-other : goal.invariant-loop-other
invariant-loop-other l = (exact : Bool) (arcs : List Lag) → IsKnown exact (activity_count l.project) arcs l.weights
    → All (λ m. LieApart l.lemmas arcs m l.interval) (take l.other-index l.others)
