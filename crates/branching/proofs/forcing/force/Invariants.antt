use Rattle.std.proofs.Common.{[], ◌∷◌, ◌++◌, ◌≡◌, length}
use Rattle.std.specs.List.{filter}
use Rattle.branching.specs.Forcing.{IsForcedMatrix}
use Rattle.forbidden_sets.specs.Incompatible.{pairs_of}
use Rattle.branching.proofs.Rounds.{is_left}
use Rattle.branching.proofs.forcing.force.Given as goal

abbrev pub invariant-loop-pair : goal.invariant-loop-pair
invariant-loop-pair l = record {
  marks : l.matrix.marks ≡ l.initial.matrix.marks;
  forced : IsForcedMatrix l.node.project (l.node.pairs ++ l.fn.first ∷ []) l.forced.items l.matrix.rows;
}

abbrev pub decreases-loop-pair : goal.decreases-loop-pair
decreases-loop-pair l = length (filter (is_left l.node.project l.matrix.rows) (pairs_of l.incompatible))
