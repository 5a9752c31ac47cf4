use Rattle.std.proofs.Common.{◌≡◌, ◌++◌, map, reverse, vec_len}
use Rattle.network.specs.Problem.{Problem, NameActivities}
use Rattle.search_record.specs.Due.{AreNested, later_at}
use Rattle.search_record.proofs.due.push_later.Given as goal

abbrev pub invariant-loop-pair : goal.invariant-loop-pair
invariant-loop-pair l = record {
  added : map (later_at l.depth) l.pairs.items ++ reverse l.later.items ≡ map (later_at l.depth) l.fn.pairs.items ++ reverse l.fn.later.items;
  named : (p : Problem) → NameActivities p l.fn.pairs.items → NameActivities p l.pairs.items;
  nested : (p : Problem) → NameActivities p l.fn.pairs.items → AreNested p l.depth (reverse l.fn.later.items) → AreNested p l.depth (reverse l.later.items);
}

abbrev pub decreases-loop-pair : goal.decreases-loop-pair
decreases-loop-pair l = vec_len l.pairs
