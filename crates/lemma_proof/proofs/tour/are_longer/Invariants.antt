use Rattle.std.proofs.Common.{◌≡◌, ◌^◌, pos, ◌-ℤ◌, take}
use Rattle.network.specs.Problem.{IsWithin}
use Rattle.lemma_proof.proofs.TourLoops.{sizes}
use Rattle.lemma_proof.proofs.tour.are_longer.Given as goal

abbrev pub invariant-loop-interval : goal.invariant-loop-interval
invariant-loop-interval l = record {
  is : l.left ≡ ((l.to -ℤ l.from) -ℤ pos (sizes (take l.interval-index l.intervals)));
  within : IsWithin (pos (2 ^ 35)) l.left;
}
