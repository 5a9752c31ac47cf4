-- A list of pairs that grows and goes back, with the matrix of the project and the pairs.
use Rattle.std.specs.Prelude.{◌≡◌, ◌<◌, ◌-◌, ◌≤◌, ℕ, List, [], ◌∷◌, length, take}
use Rattle.network.specs.declared.parts.Pair.{Pair}
use Rattle.network.specs.Problem.{Problem, arcs_of}
use Rattle.network.specs.Walk.{Rows, HasPositiveCycle, IsProjectMatrix}
use Rattle.longest_path.specs.Saved.{Marked}
use Rattle.longest_path.specs.declared.fault.PathFault.{PathFault}
use Rattle.longest_path.specs.declared.fault.PathFault.TheVariants.{PositiveCycle, Memory}
use Rattle.branching.specs.Subproblem.{Subproblem}
use Rattle.profile.specs.Overloads.{IsSweepFor}
use Rattle.bounds.specs.Bound.{IsWorkspaceFor}
use Rattle.branching.specs.declared.workspace.ExpansionWorkspace.{ExpansionWorkspace}

-- a project, and the pairs that were added
pub record Path : Type 0 where
  pub project : Problem
  pub pairs : List Pair

-- all pairs but the last
abbrev pub front : List Pair → List Pair
front pairs = take (length pairs - 1) pairs

-- the first so many of these pairs
abbrev pub IsFrontOf : List Pair → List Pair → Type 0
IsFrontOf pairs all = pairs ≡ take (length pairs) all

-- it is at the node
pub record IsAt (path : Path) (node : Subproblem) : Type 0 where
  pub project : path.project ≡ node.project
  pub pairs : path.pairs ≡ node.pairs

-- a mark for each pair, the last one first, leads back to the matrix without that pair and those after it
abbrev pub LeadBack : Problem → List Pair → List Rows → Type 0
LeadBack p pairs [] = pairs ≡ []
LeadBack p pairs (rows ∷ marks) =
    (0 < length pairs) × IsProjectMatrix p (front pairs) rows × LeadBack p (front pairs) marks

-- pairs that were added, and rows with marks
pub record PairRows : Type 0 where
  pub pairs : List Pair
  pub marked : Marked

-- the rows are the matrix of the project and the pairs, and the marks lead back
pub record IsPath (p : Problem) (s : PairRows) : Type 0 where
  pub matrix : IsProjectMatrix p s.pairs s.marked.rows
  pub back : LeadBack p s.pairs s.marked.marks

-- a pair that isn't added closes a walk of positive weight, or there was no memory
abbrev pub IsPairFault : Problem → List Pair → PathFault → Type 0
IsPairFault p pairs (PositiveCycle at) = HasPositiveCycle (arcs_of p pairs)
IsPairFault p pairs Memory = Unit {0}

-- both lists begin with the same so many pairs
pub record IsShared (count : ℕ) (left right : List Pair) : Type 0 where
  pub in_left : count ≤ length left
  pub in_right : count ≤ length right
  pub same : take count left ≡ take count right

-- ---- The memory that expansions share, and what a searcher keeps.

-- it has room for the project's nodes
pub record HasRoomFor (p : Problem) (workspace : ExpansionWorkspace) : Type 0 where
  pub bounds : IsWorkspaceFor p workspace.bounds
  pub overloads : IsSweepFor p workspace.overloads

-- the matrix goes back along the pairs, and there is room for the project's nodes
pub record IsSearcher (p : Problem) (s : PairRows) (workspace : ExpansionWorkspace) : Type 0 where
  pub path : IsPath p s
  pub room : HasRoomFor p workspace
