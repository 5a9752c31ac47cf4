use Rattle.std.proofs.Common.{◌≡◌, take}
use Rattle.std.specs.List.{flat_map}
use Rattle.profile.specs.Overloads.{start_times, overloads_at}
use Rattle.profile.proofs.Counted.{AreCounts}
use Rattle.profile.proofs.Swept.{time_after}
use Rattle.profile.proofs.sweep.all_along.Given as goal

abbrev pub invariant-loop-time : goal.invariant-loop-time
invariant-loop-time l = record {
  counts : AreCounts l.project (time_after (start_times l.fn.started.times.items) l.time-index) l.started l.ended;
  starts : l.started.times ≡ l.fn.started.times;
  listed : l.overloads.items ≡ flat_map (overloads_at l.project l.fn.started.times.items) (take l.time-index (start_times l.fn.started.times.items));
}
