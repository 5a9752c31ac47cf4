use Rattle.std.proofs.Common.{◌≡◌, ℕ, ◌<◌, pos, get_or}
use Rattle.std.specs.Option.{unwrap_or}
use Rattle.longest_path.specs.Insert.{entry_over}
use Rattle.bounds.proofs.with_pair.list_heads_with.Given as goal

abbrev pub invariant-loop-i : goal.invariant-loop-i
invariant-loop-i l = (k : ℕ) → k < l.i → get_or l.heads k (pos 0) ≡ unwrap_or (entry_over l.arc l.matrix 0 k) (pos 0)
