use Rattle.std.proofs.Common.{◌≡◌, ℕ, ◌<◌, pos, ◌-ℤ◌, get_or}
use Rattle.std.specs.Option.{unwrap_or}
use Rattle.network.specs.Problem.{duration, end_of}
use Rattle.longest_path.specs.Insert.{entry_over}
use Rattle.bounds.proofs.with_pair.list_tails_with.Given as goal

abbrev pub invariant-loop-i : goal.invariant-loop-i
invariant-loop-i l = (k : ℕ) → k < l.i → get_or l.tails k (pos 0) ≡ unwrap_or (entry_over l.arc l.matrix k (end_of l.project)) (pos 0) -ℤ duration l.project k
