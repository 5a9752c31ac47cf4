use Rattle.std.proofs.Common.{◌-◌, ◌≤◌, length}
use Rattle.profile.specs.Counts.{IsCount, HasPassed, IsSameOrder}
use Rattle.profile.proofs.counting.Count.pass.Given as goal

abbrev pub invariant-loop-next : goal.invariant-loop-next
invariant-loop-next l = record {
  count : IsCount l.project l.self;
  past : HasPassed l.self l.time;
  forward : l.fn.self.passed ≤ l.self.passed;
  same : IsSameOrder l.fn.self l.self;
}

abbrev pub decreases-loop-next : goal.decreases-loop-next
decreases-loop-next l = length l.self.order.items - l.self.passed
