use Rattle.std.proofs.Common.{ℕ, ◌≤◌, ◌-◌, length}
use Rattle.longest_path.specs.Matrix.{GainsNothingAt}
use Rattle.longest_path.proofs.columns.end_of_gains.Given as goal

abbrev pub invariant-loop-end : goal.invariant-loop-end
invariant-loop-end l = record {
  low : l.from ≤ l.end;
  inside : l.end ≤ length l.row;
  after : (k : ℕ) → l.end ≤ k → GainsNothingAt l.first l.via l.row k;
}

abbrev pub decreases-loop-end : goal.decreases-loop-end
decreases-loop-end l = l.end - l.from
