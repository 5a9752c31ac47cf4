use Rattle.std.proofs.Common.{rules, w64, SFits}
use Rattle.std.proofs.lemmas.Int.{to_z-of_z}
use Rattle.longest_path.specs.Matrix.{Reaches}
use Rattle.lemma_proof.proofs.KnownWalks.{yes_by_entry, told_beside}
use Rattle.lemma_proof.proofs.weights.Weights.implies.Goals as goal

pub returns-then-is_at_most : goal.returns-then-is_at_most
returns-then-is_at_most c =
    let fits : SFits w64 c.args.arc.weight = search rules in
    let reached : Reaches c.args.arc.weight c.get.result = simp to_z-of_z at (rw c.if-is_at_most.true at c.is_at_most.ensures) in
    yes_by_entry c.args.self.now c.args.arc c.get.result c.requires.from_activity c.requires.to_activity c.get.ensures.value reached

pub returns : goal.returns
returns c =
    let fits : SFits w64 c.args.arc.weight = search rules in
    let never : ¬ Reaches c.args.arc.weight c.get.result = simp to_z-of_z at (rw c.if-is_at_most.false at c.is_at_most.ensures) in
    told_beside c.args.self.now c.args.arc c.get.result c.implies_beside.result c.requires.from_activity
    c.requires.to_activity c.get.ensures.value never c.implies_beside.ensures
