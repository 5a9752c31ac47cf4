use Rattle.std.proofs.Common.{rules, arith, ◌-ℤ◌, pos, w64, SFits}
use Rattle.std.proofs.lemmas.Int.{ints, to_z-of_z}
use Rattle.longest_path.specs.Insert.{arc_of}
use Rattle.lemma_proof.specs.Reasons.{Tells, Implies, EndsAfterStart}
use Rattle.lemma_proof.proofs.overload.is_late.Goals as goal

pub returns : goal.returns
returns c = λ exact arcs m.
    let long_fits : SFits w64 c.duration.result = search rules in
    let fits : SFits w64 (pos 1 -ℤ c.duration.result) = omega (arith, ints, c.duration.ensures.amount.at_least, c.duration.ensures.amount.at_most) in
    let by_result : Tells exact c.implies.result
    (Implies arcs (arc_of c.args.pair.before c.args.pair.after (pos 1 -ℤ c.duration.result))) =
    simp to_z-of_z at (c.implies.ensures exact arcs (rw c.requires.size m)) in
    let late : Tells exact c.implies.result
    (EndsAfterStart c.args.project.now arcs c.args.pair.after c.args.pair.before) =
    rw c.duration.ensures.value at by_result in
    late
