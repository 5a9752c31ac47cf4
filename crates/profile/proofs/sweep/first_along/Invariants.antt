use Rattle.std.proofs.Common.{◌≡◌, ◌-◌, length}
use Rattle.profile.proofs.Swept.{IsSwept}
use Rattle.profile.proofs.sweep.first_along.Given as goal

abbrev pub invariant-loop-time : goal.invariant-loop-time
invariant-loop-time l = record {
  swept : IsSwept l.project l.started l.ended;
  starts : l.started.times ≡ l.fn.started.times;
}

abbrev pub decreases-loop-time : goal.decreases-loop-time
decreases-loop-time l = length l.started.order.items - l.started.passed
