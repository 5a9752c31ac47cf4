use Rattle.std.proofs.Common.{◌≡◌, ◌≤◌, length, take}
use Rattle.network.specs.Problem.{Problem}
use Rattle.branching.specs.Path.{IsPath}
use Rattle.branching.proofs.pair_matrix.PairMatrix.keep.Given as goal

abbrev pub invariant-loop-self : goal.invariant-loop-self
invariant-loop-self l = record {
  enough : l.count ≤ length l.self.pairs;
  within : length l.self.pairs ≤ length l.initial.self.pairs;
  kept : l.self.pairs ≡ take (length l.self.pairs) l.initial.self.pairs;
  path : (p : Problem) → IsPath p l.initial.self → IsPath p l.self;
}

abbrev pub decreases-loop-self : goal.decreases-loop-self
decreases-loop-self l = length l.self.pairs
