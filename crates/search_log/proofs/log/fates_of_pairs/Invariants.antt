use Rattle.std.proofs.Common.{◌≡◌, ◌++◌, ◌+◌, ◌≤◌, map, drop, length}
use Rattle.std.specs.Arc.{arc_value}
use Rattle.branching.specs.Fates.{fate_value}
use Rattle.search_log.specs.Recording.{fates_under}
use Rattle.search_log.proofs.log.fates_of_pairs.Given as goal

abbrev pub invariant-loop-fate : goal.invariant-loop-fate
invariant-loop-fate l = record {
  told : map fate_value l.all.items ++ fates_under l.limit l.depth l.next (map fate_value (drop l.fate-index l.fates))
      (map arc_value l.left) ≡ fates_under l.limit l.depth l.first (map fate_value l.fates) (map arc_value l.children);
  few : l.next + length l.left ≤ l.first + length l.children;
}
