use Rattle.std.proofs.Common.{◌≡◌, map, take}
use Rattle.network.specs.Problem.{demand}
use Rattle.forbidden_sets.proofs.shrinking.demands_of.Given as goal

abbrev pub invariant-loop-member : goal.invariant-loop-member
invariant-loop-member l = l.demands.items ≡ map (demand l.project l.resource) (take l.member-index l.members)
