use Rattle.std.proofs.Common.{◌≡◌, map}
use Rattle.std.specs.List.{filter, range_with_len}
use Rattle.bounds.specs.Energy.{task, has_work}
use Rattle.bounds.proofs.task.tasks_of.Given as goal

abbrev pub invariant-loop-activity : goal.invariant-loop-activity
invariant-loop-activity l = l.tasks.items ≡ filter has_work (map (task l.project l.resource) (range_with_len 0 l.activity))
