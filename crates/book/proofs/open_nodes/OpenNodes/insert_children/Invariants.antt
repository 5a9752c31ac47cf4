use Rattle.std.proofs.Common.{map, take}
use Rattle.std.specs.Arc.{arc_value}
use Rattle.book.proofs.Filing.{ChildrenSoFar}
use Rattle.book.proofs.open_nodes.OpenNodes.insert_children.Given as goal

abbrev pub invariant-loop-child : goal.invariant-loop-child
invariant-loop-child l = ChildrenSoFar l.first l.limit (map arc_value (take l.child-index l.children)) l.next l.initial.self l.self
