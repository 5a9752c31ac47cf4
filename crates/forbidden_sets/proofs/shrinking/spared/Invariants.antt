use Rattle.std.proofs.Common.{◌-◌, length}
use Rattle.forbidden_sets.proofs.Shrunken.{AreSpared}
use Rattle.forbidden_sets.proofs.shrinking.spared.Given as goal

abbrev pub invariant-loop-count : goal.invariant-loop-count
invariant-loop-count l = AreSpared l.capacity l.loads l.count l.rest

abbrev pub decreases-loop-count : goal.decreases-loop-count
decreases-loop-count l = length l.loads - l.count
