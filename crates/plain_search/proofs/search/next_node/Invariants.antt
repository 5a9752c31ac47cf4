use Rattle.std.proofs.Common.{vec_len, map}
use Rattle.std.specs.Arc.{arc_value}
use Rattle.plain_search.specs.Takes.{DropsOver}
use Rattle.plain_search.proofs.search.next_node.Given as goal

abbrev pub invariant-loop-node : goal.invariant-loop-node
invariant-loop-node l = DropsOver l.ceiling (map arc_value l.initial.stack.items) (map arc_value l.stack.items)

abbrev pub decreases-loop-node : goal.decreases-loop-node
decreases-loop-node l = vec_len l.stack
