use Rattle.std.proofs.Common.{◌≡◌, sym, ◌∙◌, arith, rules, ◌+ℤ◌, pos, w64, ◌<ℤ◌, SFits, length, IsTrue, ◌↔◌}
use Rattle.std.specs.List.{All, sum_by}
use Rattle.std.proofs.lemmas.Bool.{iff_false}
use Rattle.std.proofs.lemmas.Int.{ints, to_z-of_z}
use Rattle.std.proofs.lemmas.List.Elements.{All-weaker}
use Rattle.lemma_proof.specs.Reasons.{Tells}
use Rattle.lemma_proof.specs.Slots.{IsSmall}
use Rattle.lemma_proof.specs.Tours.{IsInterval, IsTour, LiesWithin}
use Rattle.lemma_proof.proofs.Loops.{tells_false, refused}
use Rattle.lemma_proof.proofs.TourLoops.{none_there, sizes, some_there}
use Rattle.lemma_proof.proofs.tour.is_tour.Goals as goal

pub returns-then-is_empty : goal.returns-then-is_empty
returns-then-is_empty c = λ exact arcs m.
    refused (IsTour c.args.project.now c.args.lemmas.now arcs c.args.from c.args.to c.args.intervals.now)
    (λ sure k. none_there (length c.args.intervals.now) c.is_empty.result c.is_empty.ensures c.if-is_empty.true k.some)

pub returns-then-not-rise : goal.returns-then-not-rise
returns-then-not-rise c = λ exact arcs m.
    refused (IsTour c.args.project.now c.args.lemmas.now arcs c.args.from c.args.to c.args.intervals.now)
    (λ sure k. iff_false c.rise.ensures c.if-not-rise.true k.rising)

pub returns-then-not-are_intervals : goal.returns-then-not-are_intervals
returns-then-not-are_intervals c = λ exact arcs m.
    refused (IsTour c.args.project.now c.args.lemmas.now arcs c.args.from c.args.to c.args.intervals.now)
    (λ sure k. iff_false c.are_intervals.ensures c.if-not-are_intervals.true k.are_intervals)

pub returns-then-not-are_longer : goal.returns-then-not-are_longer
returns-then-not-are_longer c = λ exact arcs m.
    let from_fits : SFits w64 c.args.from = search rules in
    let to_fits : SFits w64 c.args.to = search rules in
    let long : IsTrue c.are_longer.result ↔ (c.args.to <ℤ (c.args.from +ℤ pos (sizes c.args.intervals.now))) =
    simp to_z-of_z at c.are_longer.ensures in
    refused (IsTour c.args.project.now c.args.lemmas.now arcs c.args.from c.args.to c.args.intervals.now)
    (λ sure k. iff_false long c.if-not-are_longer.true k.over)

pub returns-then-not-all_lie_within : goal.returns-then-not-all_lie_within
returns-then-not-all_lie_within c = λ exact arcs m.
    let from_fits : SFits w64 c.args.from = search rules in
    let to_fits : SFits w64 c.args.to = search rules in
    let within : Tells exact c.all_lie_within.result (All (LiesWithin arcs c.args.from c.args.to) c.args.intervals.now) =
    simp to_z-of_z at (c.all_lie_within.ensures exact arcs m) in
    refused (IsTour c.args.project.now c.args.lemmas.now arcs c.args.from c.args.to c.args.intervals.now)
    (λ sure k. tells_false within c.if-not-all_lie_within.true sure k.inside)

pub returns : goal.returns
returns c = λ exact arcs m.
    let from_fits : SFits w64 c.args.from = search rules in
    let to_fits : SFits w64 c.args.to = search rules in
    let within : Tells exact c.all_lie_within.result (All (LiesWithin arcs c.args.from c.args.to) c.args.intervals.now) =
    simp to_z-of_z at (c.all_lie_within.ensures exact arcs m) in
    let long : IsTrue c.are_longer.result ↔ (c.args.to <ℤ (c.args.from +ℤ pos (sizes c.args.intervals.now))) =
    simp to_z-of_z at c.are_longer.ensures in
    let apart = c.lie_one_after_another.ensures exact arcs m in
    record {
      shown = λ yes. record {
        some = some_there (length c.args.intervals.now) c.is_empty.result c.is_empty.ensures c.if-is_empty.false;
        rising = c.rise.ensures.0 c.if-not-rise.false;
        are_intervals = c.are_intervals.ensures.0 c.if-not-are_intervals.false;
        inside = within.shown c.if-not-all_lie_within.false;
        apart = apart.shown yes;
        over = long.0 c.if-not-are_longer.false;
      };
      only = λ sure k. apart.only sure k.apart;
    }
