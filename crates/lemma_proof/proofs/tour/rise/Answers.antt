use Rattle.std.proofs.Common.{refl, arith}
use Rattle.lemma_proof.proofs.TourLoops.{rise_fails, rise_more, zero_interval}
use Rattle.lemma_proof.proofs.tour.rise.Goals as goal

pub returns-then-here-before : goal.returns-then-here-before
returns-then-here-before c =
    rise_fails c.args.intervals.now c.loop-place.place zero_interval (omega arith) c.loop-place-test.true c.if-here-before.true

pub loop-place-preserved : goal.loop-place-preserved
loop-place-preserved c =
    rise_more c.args.intervals.now c.loop-place.place zero_interval (omega arith) c.loop-place-test.true
    c.loop-place.invariant c.if-here-before.false

pub returns : goal.returns
returns c = (λ _. λ k d low. c.loop-place.invariant k d (omega arith), λ _. refl)
