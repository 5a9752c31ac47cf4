use Rattle.lemma_proof.proofs.TourLoops.{RiseBefore}
use Rattle.lemma_proof.proofs.tour.rise.Given as goal

abbrev pub invariant-loop-place : goal.invariant-loop-place
invariant-loop-place l = RiseBefore l.intervals l.place
