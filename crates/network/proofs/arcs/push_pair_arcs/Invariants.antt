use Rattle.std.proofs.Common.{◌≡◌, ◌++◌, map, take}
use Rattle.network.specs.Problem.{lasting}
use Rattle.network.proofs.arcs.push_pair_arcs.Given as goal

abbrev pub invariant-loop-pair : goal.invariant-loop-pair
invariant-loop-pair l =
    l.arcs.items ≡ l.initial.arcs.items ++ map (λ q. lasting l.durations q.before q.after) (take l.pair-index l.pairs)
