use Rattle.std.proofs.lemmas.List.Elements.{All-more}
use Rattle.lemma_proof.specs.Tours.{LieApart}
use Rattle.lemma_proof.proofs.Loops.{tells_false, some_fails, none_fails}
use Rattle.lemma_proof.proofs.TourLoops.{zero_interval}
use Rattle.lemma_proof.proofs.tour.all_lie_apart.Goals as goal

pub returns-then-not-lie_apart : goal.returns-then-not-lie_apart
returns-then-not-lie_apart c = λ exact arcs m.
    some_fails (λ k. LieApart c.args.lemmas.now arcs k c.args.interval) c.args.others.now c.loop-other.other-index
    zero_interval c.loop-other-test.true (tells_false (c.lie_apart.ensures exact arcs m) c.if-not-lie_apart.true)

pub loop-other-preserved : goal.loop-other-preserved
loop-other-preserved c = λ exact arcs m.
    All-more (λ k. LieApart c.args.lemmas.now arcs k c.args.interval) c.args.others.now c.loop-other.other-index
    zero_interval c.loop-other-test.true (c.loop-other.invariant exact arcs m)
    ((c.lie_apart.ensures exact arcs m).shown c.if-not-lie_apart.false)

pub returns : goal.returns
returns c = λ exact arcs m. none_fails (λ k. LieApart c.args.lemmas.now arcs k c.args.interval) c.args.others.now
    c.loop-other.other-index c.loop-other-test.false (c.loop-other.invariant exact arcs m)
