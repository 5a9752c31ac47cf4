use Rattle.std.proofs.Common.{◌≡◌, ◌-◌, length, take}
use Rattle.branching.specs.Path.{IsPath}
use Rattle.branching.proofs.pair_matrix.PairMatrix.go_on.Given as goal

abbrev pub invariant-loop-pair : goal.invariant-loop-pair
invariant-loop-pair l = record { path : IsPath l.project l.self; begun : l.self.pairs ≡ take (length l.self.pairs) l.pairs }

abbrev pub decreases-loop-pair : goal.decreases-loop-pair
decreases-loop-pair l = length l.pairs - length l.self.pairs
