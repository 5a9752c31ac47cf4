use Rattle.std.proofs.Common.{◌≡◌, ◌++◌}
use Rattle.profile.specs.Counts.{counted_use}
use Rattle.profile.proofs.Swept.{first_overloads}
use Rattle.profile.proofs.sweep.push_overloaded.Given as goal

abbrev pub invariant-loop-resource : goal.invariant-loop-resource
invariant-loop-resource l = l.overloads.items ≡ l.fn.overloads.items ++ first_overloads l.project l.time (counted_use l.started l.ended) l.resource
