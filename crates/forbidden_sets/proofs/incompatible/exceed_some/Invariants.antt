use Rattle.std.proofs.Common.{ℕ, ◌+◌, ◌<◌, ◌≤◌}
use Rattle.network.specs.Problem.{demand, capacity}
use Rattle.forbidden_sets.proofs.incompatible.exceed_some.Given as goal

abbrev pub invariant-loop-resource : goal.invariant-loop-resource
invariant-loop-resource l = (k : ℕ) → k < l.resource → demand l.project k l.pair.before + demand l.project k l.pair.after ≤ capacity l.project k
