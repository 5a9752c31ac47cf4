use Rattle.std.proofs.Common.{take}
use Rattle.std.specs.List.{All}
use Rattle.lemma_proof.specs.Slots.{IsSmall}
use Rattle.lemma_proof.proofs.tour.all_are_small.Given as goal

abbrev pub invariant-loop-interval : goal.invariant-loop-interval
invariant-loop-interval l = All IsSmall (take l.interval-index l.intervals)
