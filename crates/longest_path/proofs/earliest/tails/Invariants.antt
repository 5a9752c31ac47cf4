use Rattle.std.proofs.Common.{◌≡◌, map}
use Rattle.std.specs.List.{range_with_len}
use Rattle.longest_path.specs.Ends.{tail_weight}
use Rattle.longest_path.proofs.earliest.tails.Given as goal

abbrev pub invariant-loop-i : goal.invariant-loop-i
invariant-loop-i l = l.tails.items ≡ map (tail_weight l.project l.matrix) (range_with_len 0 l.i)
