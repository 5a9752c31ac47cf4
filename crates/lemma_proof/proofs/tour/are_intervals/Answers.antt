use Rattle.std.proofs.lemmas.List.Elements.{All-more}
use Rattle.lemma_proof.specs.Tours.{IsInterval}
use Rattle.lemma_proof.proofs.Loops.{none_fails, tells_both}
use Rattle.lemma_proof.proofs.TourLoops.{zero_interval}
use Rattle.lemma_proof.proofs.tour.are_intervals.Goals as goal

pub loop-interval-preserved : goal.loop-interval-preserved
loop-interval-preserved c =
    All-more (IsInterval c.args.project.now) c.args.intervals.now c.loop-interval.interval-index zero_interval
    c.loop-interval-test.true c.loop-interval.invariant (c.is_interval.ensures.0 c.if-not-is_interval.false)

pub returns : goal.returns
returns c = tells_both (none_fails (IsInterval c.args.project.now) c.args.intervals.now c.loop-interval.interval-index
    c.loop-interval-test.false c.loop-interval.invariant)
