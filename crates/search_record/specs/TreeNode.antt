-- A node of a record's tree, with the matrix of its project and pairs as far as there is one.
use Rattle.std.specs.Prelude.{◌≡◌, Option, MatchOption, List, [], ◌∷◌, ◌++◌}
use Rattle.network.specs.declared.parts.Pair.{Pair}
use Rattle.network.specs.Problem.{Problem}
use Rattle.branching.specs.Path.{Path, PairRows, IsPath}
use Rattle.branching.specs.Right.{IsInfeasible}

-- the first of some pairs, if there is one, closes a walk of positive weight with those before them
abbrev pub IsInfeasibleFrom : Problem → List Pair → List Pair → Type 0
IsInfeasibleFrom p before [] = Unit {0}
IsInfeasibleFrom p before (pair ∷ pairs) = IsInfeasible p (before ++ pair ∷ [])

-- the rows are the matrix of the first pairs, and the first of the others closes a walk of positive weight
pub record IsPathTo (p : Problem) (live : PairRows) (others : List Pair) : Type 0 where
  pub path : IsPath p live
  pub dead : IsInfeasibleFrom p live.pairs others

-- the node without pairs; none where that is dead
abbrev pub IsRootNode : Problem → Option Path → Type 0
IsRootNode p found = MatchOption found (IsInfeasible p []) (λ node. node ≡ record { project = p; pairs = [] })
