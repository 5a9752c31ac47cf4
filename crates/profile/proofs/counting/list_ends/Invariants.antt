use Rattle.std.proofs.Common.{◌≡◌, ℕ, ◌<◌, pos, get_or}
use Rattle.profile.specs.Counts.{end_time}
use Rattle.profile.proofs.counting.list_ends.Given as goal

abbrev pub invariant-loop-i : goal.invariant-loop-i
invariant-loop-i l = (k : ℕ) → k < l.i → get_or l.ends k (pos 0) ≡ end_time l.project l.starts k
