use Rattle.std.proofs.Common.{◌∙◌}
use Rattle.branching.proofs.open_node.OpenNode.is_of.Goals as goal

pub returns : goal.returns
returns c = rw (c.deref.ensures ∙ c.project.ensures.project) at c.is_same.ensures
