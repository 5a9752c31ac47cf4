use Rattle.std.proofs.Common.{Bool, List, take}
use Rattle.std.specs.List.{All}
use Rattle.network.specs.declared.parts.Lag.{Lag}
use Rattle.network.specs.Problem.{activity_count}
use Rattle.lemma_proof.specs.Reasons.{IsKnown}
use Rattle.lemma_proof.specs.Tours.{LiesWithin}
use Rattle.lemma_proof.proofs.tour.all_lie_within.Given as goal

abbrev pub invariant-loop-interval : goal.invariant-loop-interval
invariant-loop-interval l = (exact : Bool) (arcs : List Lag) → IsKnown exact (activity_count l.project) arcs l.weights
    → All (LiesWithin arcs l.from l.to) (take l.interval-index l.intervals)
