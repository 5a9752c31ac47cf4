use Rattle.std.proofs.Common.{ℕ, ◌<◌}
use Rattle.longest_path.specs.Matrix.{GainsNothingAt}
use Rattle.longest_path.proofs.columns.first_gain.Given as goal

abbrev pub invariant-loop-b : goal.invariant-loop-b
invariant-loop-b l = (k : ℕ) → k < l.b → GainsNothingAt l.first l.via l.row k
