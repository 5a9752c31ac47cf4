use Rattle.std.proofs.Common.{◌≡◌, ◌≤◌, length, take}
use Rattle.branching.proofs.searcher.shared_count.Given as goal

abbrev pub invariant-loop-place : goal.invariant-loop-place
invariant-loop-place l = record { within : l.place ≤ length l.right; same : take l.place l.left ≡ take l.place l.right }
