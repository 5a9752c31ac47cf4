use Rattle.std.proofs.Common.{rules, w64, SFits}
use Rattle.std.proofs.lemmas.Int.{to_z-of_z}
use Rattle.branching.proofs.open_node.OpenNode.with_pairs.Goals as goal

pub returns : goal.returns
returns c =
    let fits : SFits w64 c.args.bound = search rules in
    simp to_z-of_z at (rw (c.requires.parent.project, c.requires.parent.pairs) at c.shared.ensures)
