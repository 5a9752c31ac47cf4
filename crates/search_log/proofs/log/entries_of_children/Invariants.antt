use Rattle.std.proofs.Common.{◌≡◌, ◌++◌, map, drop}
use Rattle.std.specs.Arc.{arc_value}
use Rattle.search_log.specs.RightTrail.{children_below}
use Rattle.search_log.specs.SearchLog.{trail_entry}
use Rattle.search_log.specs.Recording.{child_entry}
use Rattle.search_log.proofs.log.entries_of_children.Given as goal

abbrev pub invariant-loop-child : goal.invariant-loop-child
invariant-loop-child l = map trail_entry l.entries.items ++ map (child_entry l.parent l.depth)
    (children_below l.limit (map arc_value (drop l.child-index l.children))) ≡ map (child_entry l.parent l.depth)
    (children_below l.limit (map arc_value l.children))
