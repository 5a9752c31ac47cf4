use Rattle.std.proofs.Common.{◌≡◌, ◌≤◌, length, vec_capacity}
use Rattle.std.specs.List.{filter, range_with_len}
use Rattle.network.specs.Schedule.{is_running}
use Rattle.profile.proofs.usage.list_running.Given as goal

abbrev pub invariant-loop-activity : goal.invariant-loop-activity
invariant-loop-activity l = record {
  so_far : l.activities.items ≡ filter (is_running l.project l.starts l.time) (range_with_len 0 l.activity);
  few : length l.activities.items ≤ l.activity;
  room : vec_capacity l.activities ≡ vec_capacity l.fn.activities;
}
