use Rattle.std.proofs.Common.{◌≡◌, map, take}
use Rattle.forbidden_sets.proofs.shrinking.in_order.Given as goal

abbrev pub invariant-loop-load : goal.invariant-loop-load
invariant-loop-load l = l.members.items ≡ map (λ load. load.activity) (take l.load-index l.loads)
