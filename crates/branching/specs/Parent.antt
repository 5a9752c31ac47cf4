-- What children have of a node.
use Rattle.std.specs.Prelude.{◌≡◌, ℤ, List, ◌++◌, Option}
use Rattle.std.specs.Option.{option_to_list}
use Rattle.std.specs.Arc.{arc_value}
use Rattle.network.specs.declared.parts.Pair.{Pair}
use Rattle.branching.specs.Subproblem.{Subproblem}
use Rattle.branching.specs.declared.open_node.Parent.{Parent}
use Rattle.branching.specs.declared.open_node.OpenNode.TheInside.{Inside}

-- its project and its pairs
pub record IsParent (node : Subproblem) (parent : Parent) : Type 0 where
  pub project : (arc_value parent.base).project ≡ node.project
  pub pairs : parent.pairs.items ≡ node.pairs

-- the node with a pair, if there is one, and forced pairs after its parent's
abbrev pub node_under : Parent → Option Pair → List Pair → ℤ → Subproblem
node_under parent added forced bound = record {
  project = (arc_value parent.base).project;
  pairs = parent.pairs.items ++ (option_to_list added ++ forced);
  bound = bound;
}

-- ---- The fields of an `OpenNode`, as a caller sees them.

abbrev pub open_node_of : Inside → Subproblem
open_node_of n = node_under (arc_value n.parent) n.added n.forced.items n.bound
