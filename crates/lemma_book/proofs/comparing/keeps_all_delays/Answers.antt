use Rattle.std.proofs.lemmas.Bool.{iff_false}
use Rattle.lemma_proof.specs.Lines.{KeepsDelays}
use Rattle.lemma_proof.proofs.Loops.{pairs_fail, pairs_hold, pairs_more, tells_both}
use Rattle.lemma_proof.proofs.TourLoops.{zero_interval}
use Rattle.lemma_book.proofs.comparing.keeps_all_delays.Goals as goal

pub returns-then-not-keeps_delays_of : goal.returns-then-not-keeps_delays_of
returns-then-not-keeps_delays_of c =
    tells_both (pairs_fail (KeepsDelays c.args.premises.now.lemmas c.args.other.now.lemmas) c.args.intervals.now
    c.loop-place.place zero_interval c.loop-place-test.true
    (λ _. iff_false c.keeps_delays_of.ensures c.if-not-keeps_delays_of.true))

pub loop-place-preserved : goal.loop-place-preserved
loop-place-preserved c =
    pairs_more (KeepsDelays c.args.premises.now.lemmas c.args.other.now.lemmas) c.args.intervals.now c.loop-place.place
    zero_interval c.loop-place-test.true c.loop-place.invariant
    (c.keeps_delays_of.ensures.0 c.if-not-keeps_delays_of.false)

pub returns : goal.returns
returns c = tells_both (pairs_hold (KeepsDelays c.args.premises.now.lemmas c.args.other.now.lemmas) c.args.intervals.now
    c.loop-place.place c.loop-place-test.false c.loop-place.invariant)
