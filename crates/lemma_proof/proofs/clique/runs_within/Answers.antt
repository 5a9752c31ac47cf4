use Rattle.std.proofs.Common.{rules, arith, ◌-ℤ◌, w64, SFits}
use Rattle.std.proofs.lemmas.Int.{ints, to_z-of_z}
use Rattle.network.specs.Problem.{duration}
use Rattle.longest_path.specs.Insert.{arc_of}
use Rattle.lemma_proof.specs.Reasons.{Tells, Implies, RunsWithin}
use Rattle.lemma_proof.proofs.Loops.{tells_false, refused}
use Rattle.lemma_proof.proofs.clique.runs_within.Goals as goal

pub returns-then-not-implies : goal.returns-then-not-implies
returns-then-not-implies c = λ exact arcs m.
    let fits : SFits w64 c.args.from = search rules in
    let late : Tells exact c.implies.result (Implies arcs (arc_of 0 c.args.activity c.args.from)) =
    simp to_z-of_z at (c.implies.ensures exact arcs (rw c.requires.size m)) in
    refused (RunsWithin c.args.project.now arcs c.args.from c.args.to c.args.activity) (λ sure r. tells_false late c.if-not-implies.true sure r.late)

pub returns : goal.returns
returns c = λ exact arcs m.
    let from_fits : SFits w64 c.args.from = search rules in
    let to_fits : SFits w64 c.args.to = search rules in
    let long_fits : SFits w64 c.duration.result = search rules in
    let fits : SFits w64 (c.duration.result -ℤ c.args.to) =
    omega (
      arith,
      ints,
      c.duration.ensures.amount.at_least,
      c.duration.ensures.amount.at_most,
      c.requires.time.at_least,
      c.requires.time.at_most,
    ) in
    let late : Tells exact c.implies.result (Implies arcs (arc_of 0 c.args.activity c.args.from)) =
    simp to_z-of_z at (c.implies.ensures exact arcs (rw c.requires.size m)) in
    let by_result : Tells exact c.implies-2.result
    (Implies arcs (arc_of c.args.activity 0 (c.duration.result -ℤ c.args.to))) =
    simp to_z-of_z at (c.implies-2.ensures exact arcs (rw c.requires.size m)) in
    let early : Tells exact c.implies-2.result
    (Implies arcs (arc_of c.args.activity 0 (duration c.args.project.now c.args.activity -ℤ c.args.to))) =
    rw c.duration.ensures.value at by_result in
    record { shown = λ yes. record { late = late.shown c.if-not-implies.false; early = early.shown yes }; only = λ sure r. early.only sure r.early }
