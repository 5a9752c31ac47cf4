use Rattle.std.proofs.Common.{rules, ◌+ℤ◌, ◌-ℤ◌, pos, w64, SFits}
use Rattle.std.proofs.lemmas.Int.{to_z-of_z}
use Rattle.longest_path.specs.Insert.{arc_of}
use Rattle.lemma_proof.specs.Reasons.{Tells, Implies}
use Rattle.lemma_proof.specs.Tours.{LiesWithin}
use Rattle.lemma_proof.proofs.Loops.{tells_false, refused}
use Rattle.lemma_proof.proofs.tour.lies_within.Goals as goal

pub returns-then-not-implies : goal.returns-then-not-implies
returns-then-not-implies c = λ exact arcs m.
    let from_fits : SFits w64 c.args.from = search rules in
    let late : Tells exact c.implies.result (Implies arcs (arc_of 0 c.args.interval.activity (c.args.from -ℤ c.args.interval.at))) =
    simp to_z-of_z at (rw c.late_arc.ensures.arc at (c.implies.ensures exact arcs (rw c.requires.size m))) in
    refused (LiesWithin arcs c.args.from c.args.to c.args.interval) (λ sure r. tells_false late c.if-not-implies.true sure r.late)

pub returns : goal.returns
returns c = λ exact arcs m.
    let from_fits : SFits w64 c.args.from = search rules in
    let to_fits : SFits w64 c.args.to = search rules in
    let late : Tells exact c.implies.result (Implies arcs (arc_of 0 c.args.interval.activity (c.args.from -ℤ c.args.interval.at))) =
    simp to_z-of_z at (rw c.late_arc.ensures.arc at (c.implies.ensures exact arcs (rw c.requires.size m))) in
    let early : Tells exact c.implies-2.result
    (Implies arcs (arc_of c.args.interval.activity 0 ((c.args.interval.at +ℤ pos c.args.interval.length) -ℤ c.args.to))) =
    simp to_z-of_z at (rw c.early_arc.ensures.arc at (c.implies-2.ensures exact arcs (rw c.requires.size m))) in
    record { shown = λ yes. record { late = late.shown c.if-not-implies.false; early = early.shown yes }; only = λ sure r. early.only sure r.early }
