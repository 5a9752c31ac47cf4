use Rattle.std.proofs.Common.{take}
use Rattle.std.specs.List.{All}
use Rattle.lemma_proof.specs.Tours.{IsInterval}
use Rattle.lemma_proof.proofs.tour.are_intervals.Given as goal

abbrev pub invariant-loop-interval : goal.invariant-loop-interval
invariant-loop-interval l = All (IsInterval l.project) (take l.interval-index l.intervals)
