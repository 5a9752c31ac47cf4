use Rattle.std.proofs.Common.{rules, w64, SFits}
use Rattle.std.proofs.lemmas.Int.{to_z-of_z}
use Rattle.longest_path.specs.Insert.{arc_of}
use Rattle.lemma_proof.specs.Reasons.{Tells, Implies}
use Rattle.lemma_proof.proofs.clique.starts_after_end.Goals as goal

pub returns : goal.returns
returns c = λ exact arcs m.
    let long_fits : SFits w64 c.duration.result = search rules in
    let by_result : Tells exact c.implies.result (Implies arcs (arc_of c.args.first c.args.second c.duration.result)) =
    simp to_z-of_z at (c.implies.ensures exact arcs (rw c.requires.size m)) in
    rw c.duration.ensures.value at by_result
