use Rattle.std.proofs.Common.{◌≡◌, ◌++◌, map}
use Rattle.std.specs.List.{range_with_len}
use Rattle.network.specs.Problem.{lasting}
use Rattle.network.proofs.arcs.push_end_arcs.Given as goal

abbrev pub invariant-loop-i : goal.invariant-loop-i
invariant-loop-i l =
    l.arcs.items ≡ l.initial.arcs.items ++ map (λ i. lasting l.durations i l.end) (range_with_len 0 l.i)
