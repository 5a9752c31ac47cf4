use Rattle.std.proofs.lemmas.Bool.{iff_false}
use Rattle.std.proofs.lemmas.List.Elements.{All-more}
use Rattle.lemma_proof.specs.Lines.{KeepsDelays}
use Rattle.lemma_proof.proofs.Loops.{none_fails, some_fails, tells_both}
use Rattle.lemma_proof.proofs.TourLoops.{zero_interval}
use Rattle.lemma_book.proofs.comparing.keeps_delays_of.Goals as goal

pub returns-then-not-keeps_delays : goal.returns-then-not-keeps_delays
returns-then-not-keeps_delays c =
    tells_both (some_fails (λ m. KeepsDelays c.args.premises.now.lemmas c.args.other.now.lemmas m c.args.second)
    c.args.intervals.now c.loop-interval.interval-index zero_interval c.loop-interval-test.true
    (λ _. iff_false c.keeps_delays.ensures c.if-not-keeps_delays.true))

pub loop-interval-preserved : goal.loop-interval-preserved
loop-interval-preserved c =
    All-more (λ m. KeepsDelays c.args.premises.now.lemmas c.args.other.now.lemmas m c.args.second) c.args.intervals.now
    c.loop-interval.interval-index zero_interval c.loop-interval-test.true c.loop-interval.invariant
    (c.keeps_delays.ensures.0 c.if-not-keeps_delays.false)

pub returns : goal.returns
returns c = tells_both (none_fails (λ m. KeepsDelays c.args.premises.now.lemmas c.args.other.now.lemmas m c.args.second)
    c.args.intervals.now c.loop-interval.interval-index c.loop-interval-test.false c.loop-interval.invariant)
