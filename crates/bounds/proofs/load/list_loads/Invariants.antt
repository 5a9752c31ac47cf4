use Rattle.std.proofs.Common.{◌≡◌, ℕ, ◌-◌, ◌<◌, length, get_or}
use Rattle.bounds.specs.Loads.{keyed_load}
use Rattle.bounds.proofs.load.list_loads.Given as goal

abbrev pub invariant-loop-i : goal.invariant-loop-i
invariant-loop-i l = (k : ℕ) → k < l.i → get_or l.loads k (record { head = 0; rank = 0; work = 0 }) ≡ keyed_load l.keys
    l.ranks l.tasks (get_or l.order (length l.order - 1 - k) 0)
