use Rattle.std.proofs.Common.{ℕ, ◌<◌, ◌≤◌, length}
use Rattle.bounds.specs.Energy.{ends_of}
use Rattle.bounds.proofs.resource_buffers.greatest_ends.Given as goal

abbrev pub invariant-loop-i : goal.invariant-loop-i
invariant-loop-i l = record {
  activity : ℕ;
  there : activity < length l.heads;
  reached : l.greatest ≤ ends_of l.heads l.tails activity;
  above : (k : ℕ) → k < l.i → ends_of l.heads l.tails k ≤ l.greatest;
}
