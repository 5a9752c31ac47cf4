use Rattle.std.proofs.Common.{ℕ, ◌<◌, ◌≤◌}
use Rattle.network.specs.Problem.{capacity}
use Rattle.profile.specs.Counts.{counted_use}
use Rattle.profile.proofs.sweep.overloaded.Given as goal

abbrev pub invariant-loop-resource : goal.invariant-loop-resource
invariant-loop-resource l = (k : ℕ) → k < l.resource → counted_use l.started l.ended k ≤ capacity l.project k
