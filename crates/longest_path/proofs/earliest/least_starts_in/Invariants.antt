use Rattle.std.proofs.Common.{◌≡◌, map, pos}
use Rattle.std.specs.List.{range_with_len}
use Rattle.std.specs.Option.{unwrap_or}
use Rattle.network.specs.Walk.{entry}
use Rattle.longest_path.proofs.earliest.least_starts_in.Given as goal

abbrev pub invariant-loop-i : goal.invariant-loop-i
invariant-loop-i l = l.starts.items ≡ map (λ b. unwrap_or (entry l.matrix 0 b) (pos 0)) (range_with_len 0 l.i)
