use Rattle.std.proofs.Common.{map, reverse}
use Rattle.branching.specs.Fates.{fate_value}
use Rattle.search_log.specs.SearchLog.{trail_entry}
use Rattle.search_record.proofs.TrailLines.{Walked, left}
use Rattle.search_record.proofs.walk.tree_lines.Given as goal

-- what is written, and the lines of the fates that are left, are those of the tree
abbrev pub invariant-loop-fates : goal.invariant-loop-fates
invariant-loop-fates l = Walked (map trail_entry l.entries) l.lines.items (map (λ fates. map fate_value fates.now) (reverse l.splits.items))

abbrev pub decreases-loop-fates : goal.decreases-loop-fates
decreases-loop-fates l = left (map trail_entry l.entries) (map (λ fates. map fate_value fates.now) (reverse l.splits.items))
