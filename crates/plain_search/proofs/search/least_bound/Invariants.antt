use Rattle.std.proofs.Common.{take, map}
use Rattle.std.specs.Arc.{arc_value}
use Rattle.branching.specs.Right.{IsLeast}
use Rattle.plain_search.specs.Takes.{bounds_of}
use Rattle.plain_search.proofs.search.least_bound.Given as goal

abbrev pub invariant-loop-node : goal.invariant-loop-node
invariant-loop-node l = IsLeast (bounds_of (map arc_value (take l.node-index l.nodes))) l.least
