use Rattle.std.proofs.lemmas.List.Elements.{All-more}
use Rattle.lemma_proof.specs.Slots.{IsSmall}
use Rattle.lemma_proof.proofs.Loops.{none_fails, tells_both}
use Rattle.lemma_proof.proofs.TourLoops.{zero_interval}
use Rattle.lemma_proof.proofs.tour.all_are_small.Goals as goal

pub loop-interval-preserved : goal.loop-interval-preserved
loop-interval-preserved c =
    All-more IsSmall c.args.intervals.now c.loop-interval.interval-index zero_interval c.loop-interval-test.true
    c.loop-interval.invariant (c.is_small.ensures.0 c.if-not-is_small.false)

pub returns : goal.returns
returns c = tells_both (none_fails IsSmall c.args.intervals.now c.loop-interval.interval-index c.loop-interval-test.false c.loop-interval.invariant)
