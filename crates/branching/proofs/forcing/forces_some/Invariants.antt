use Rattle.std.proofs.Common.{take}
use Rattle.std.specs.List.{All}
use Rattle.branching.specs.Forcing.{IsForcedWith}
use Rattle.forbidden_sets.specs.Incompatible.{pairs_of}
use Rattle.branching.proofs.forcing.forces_some.Given as goal

abbrev pub invariant-loop-row : goal.invariant-loop-row
invariant-loop-row l = All (λ pair. ¬ IsForcedWith l.project l.matrix l.added pair) (pairs_of (take l.row-index l.incompatible))
