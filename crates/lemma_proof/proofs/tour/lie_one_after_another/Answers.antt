use Rattle.lemma_proof.specs.Tours.{LieApart}
use Rattle.lemma_proof.proofs.Loops.{tells_false, pairs_more, pairs_fail, pairs_hold}
use Rattle.lemma_proof.proofs.TourLoops.{zero_interval}
use Rattle.lemma_proof.proofs.tour.lie_one_after_another.Goals as goal

pub returns-then-not-all_lie_apart : goal.returns-then-not-all_lie_apart
returns-then-not-all_lie_apart c = λ exact arcs m.
    pairs_fail (LieApart c.args.lemmas.now arcs) c.args.intervals.now c.loop-place.place zero_interval
    c.loop-place-test.true (tells_false (c.all_lie_apart.ensures exact arcs m) c.if-not-all_lie_apart.true)

pub loop-place-preserved : goal.loop-place-preserved
loop-place-preserved c = λ exact arcs m.
    pairs_more (LieApart c.args.lemmas.now arcs) c.args.intervals.now c.loop-place.place zero_interval
    c.loop-place-test.true (c.loop-place.invariant exact arcs m)
    ((c.all_lie_apart.ensures exact arcs m).shown c.if-not-all_lie_apart.false)

pub returns : goal.returns
returns c = λ exact arcs m. pairs_hold (LieApart c.args.lemmas.now arcs) c.args.intervals.now c.loop-place.place
    c.loop-place-test.false (c.loop-place.invariant exact arcs m)
