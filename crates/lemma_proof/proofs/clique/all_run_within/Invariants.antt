use Rattle.std.proofs.Common.{Bool, List, take}
use Rattle.std.specs.List.{All}
use Rattle.network.specs.declared.parts.Lag.{Lag}
use Rattle.network.specs.Problem.{activity_count}
use Rattle.lemma_proof.specs.Reasons.{IsKnown, RunsWithin}
use Rattle.lemma_proof.proofs.clique.all_run_within.Given as goal

abbrev pub invariant-loop-member : goal.invariant-loop-member
invariant-loop-member l = (exact : Bool) (arcs : List Lag) → IsKnown exact (activity_count l.project) arcs l.weights
    → All (RunsWithin l.project arcs l.from l.to) (take l.member-index l.members)
