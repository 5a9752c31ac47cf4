use Rattle.std.proofs.Common.{rules, get_or, w64, SFits}
use Rattle.std.proofs.lemmas.Int.{to_z-of_z}
use Rattle.std.proofs.lemmas.List.Elements.{All-more}
use Rattle.lemma_proof.specs.Reasons.{Tells}
use Rattle.lemma_proof.specs.Tours.{LiesWithin}
use Rattle.lemma_proof.proofs.Loops.{tells_false, some_fails, none_fails}
use Rattle.lemma_proof.proofs.TourLoops.{zero_interval}
use Rattle.lemma_proof.proofs.tour.all_lie_within.Goals as goal

pub returns-then-not-lies_within : goal.returns-then-not-lies_within
returns-then-not-lies_within c = λ exact arcs m.
    let from_fits : SFits w64 c.args.from = search rules in
    let to_fits : SFits w64 c.args.to = search rules in
    let here : Tells exact c.lies_within.result
    (LiesWithin arcs c.args.from c.args.to
    (get_or c.args.intervals.now c.loop-interval.interval-index zero_interval)) =
    simp to_z-of_z at (c.lies_within.ensures exact arcs m) in
    some_fails (LiesWithin arcs c.args.from c.args.to) c.args.intervals.now c.loop-interval.interval-index
    zero_interval c.loop-interval-test.true (tells_false here c.if-not-lies_within.true)

pub loop-interval-preserved : goal.loop-interval-preserved
loop-interval-preserved c = λ exact arcs m.
    let from_fits : SFits w64 c.args.from = search rules in
    let to_fits : SFits w64 c.args.to = search rules in
    let here : Tells exact c.lies_within.result
    (LiesWithin arcs c.args.from c.args.to
    (get_or c.args.intervals.now c.loop-interval.interval-index zero_interval)) =
    simp to_z-of_z at (c.lies_within.ensures exact arcs m) in
    simp to_z-of_z (All-more (LiesWithin arcs c.args.from c.args.to) c.args.intervals.now
    c.loop-interval.interval-index zero_interval c.loop-interval-test.true (simp to_z-of_z at (c.loop-interval.invariant exact arcs m))
    (here.shown c.if-not-lies_within.false))

pub returns : goal.returns
returns c = λ exact arcs m.
    let from_fits : SFits w64 c.args.from = search rules in
    let to_fits : SFits w64 c.args.to = search rules in
    none_fails (LiesWithin arcs c.args.from c.args.to) c.args.intervals.now c.loop-interval.interval-index
    c.loop-interval-test.false (simp to_z-of_z at (c.loop-interval.invariant exact arcs m))
