use Rattle.std.proofs.Common.{◌≡◌, ℕ, ◌<◌, pos, get_or}
use Rattle.network.specs.Schedule.{start}
use Rattle.bounds.specs.Loads.{task_at}
use Rattle.bounds.proofs.load.list_keys.Given as goal

abbrev pub invariant-loop-i : goal.invariant-loop-i
invariant-loop-i l = (k : ℕ) → k < l.i → get_or l.keys k (pos 0) ≡ start l.ends (task_at l.tasks k).activity
