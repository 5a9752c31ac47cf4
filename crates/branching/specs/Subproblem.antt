-- What a node of the search is: a project, the pairs that were added, and a lower bound.
use Rattle.std.specs.Prelude.{ℤ, List, [], ◌∷◌, ◌++◌, ℕ, map}
use Rattle.network.specs.declared.parts.Pair.{Pair}
use Rattle.network.specs.Problem.{Problem, arcs_of, NameActivities, IsProject, pair_of}
use Rattle.network.specs.Walk.{IsProjectMatrix, Rows, HasNoPositiveCycle}
use Rattle.network.specs.Schedule.{StandsFor, IsTrueBound}
use Rattle.bounds.specs.Bound.{IsBoundOf}
use Rattle.forbidden_sets.specs.Incompatible.{AreRowsOf}
use Rattle.forbidden_sets.specs.declared.incompatible.Incompatible.{Incompatible}
use Rattle.std.specs.List.{flat_map}

pub record Subproblem : Type 0 where
  pub project : Problem
  pub pairs : List Pair
  pub bound : ℤ

-- the node without pairs
abbrev pub root_node : Problem → ℤ → Subproblem
root_node p bound = record { project = p; pairs = []; bound = bound }

-- the node with a pair, pairs that this forced, and a bound
abbrev pub child_of : Subproblem → Pair → List Pair → ℤ → Subproblem
child_of node first forced bound = record { project = node.project; pairs = node.pairs ++ first ∷ forced; bound = bound }

-- the node stands for the feasible schedules that keep its pairs
abbrev pub NodeStandsFor : Subproblem → List ℤ → Type 0
NodeStandsFor node s = StandsFor node.project node.pairs s

-- every schedule that the node stands for takes at least its bound
abbrev pub HasTrueBound : Subproblem → Type 0
HasTrueBound node = IsTrueBound node.project node.pairs node.bound

-- the bound of the matrix of the project and the pairs
pub record IsBoundOfPairs (p : Problem) (pairs : List Pair) (bound : ℤ) : Type 0 where
  pub rows : Rows
  pub matrix : IsProjectMatrix p pairs rows
  pub bound_of : IsBoundOf p rows bound

-- no closed walk over the project's rules and the pairs has positive weight
abbrev pub IsLive : Problem → List Pair → Type 0
IsLive p pairs = HasNoPositiveCycle (arcs_of p pairs)

-- what holds of every node
pub record IsNode (node : Subproblem) : Type 0 where
  pub limits : IsProject node.project
  pub named : NameActivities node.project node.pairs
  pub is_live : IsLive node.project node.pairs
  pub bound_of : IsBoundOfPairs node.project node.pairs node.bound
  pub true_bound : HasTrueBound node

-- what a `Node` keeps: it is a node, and the rows are the matrix of its project and pairs
pub record IsTiedTo (node : Subproblem) (rows : Rows) : Type 0 where
  pub is_node : IsNode node
  pub matrix : IsProjectMatrix node.project node.pairs rows

-- ---- What all nodes of a search share.

-- a project, its matrix without pairs, and which of its activities can't run at the same time
pub record BaseOf : Type 0 where
  pub project : Problem
  pub rows : Rows
  pub incompatible : List Incompatible

pub record IsBase (base : BaseOf) : Type 0 where
  pub matrix : IsProjectMatrix base.project [] base.rows
  pub incompatible : AreRowsOf base.project base.incompatible

-- ---- The ordered pairs of a set's members.

-- a member, and the others in order
pub record Pick : Type 0 where
  pub member : ℕ
  pub others : List ℕ

-- the pick with one more of the others, before them
abbrev pub with_other : ℕ → Pick → Pick
with_other i pick = record { member = pick.member; others = i ∷ pick.others }

-- each member with the others
abbrev pub picks : List ℕ → List Pick
picks [] = []
picks (i ∷ members) = record { member = i; others = members } ∷ map (with_other i) (picks members)

-- the member first, with each of the others
abbrev pub pairs_with : Pick → List Pair
pairs_with pick = map (pair_of pick.member) pick.others

-- each ordered pair of two members, by rising (i, j) where the members rise
abbrev pub ordered_pairs : List ℕ → List Pair
ordered_pairs members = flat_map pairs_with (picks members)
