-- The open nodes, as they are kept by bound and name.
use Rattle.std.specs.Prelude.{◌≡◌, ◌≢◌, ◌≤◌, ◌++◌, nat_lt, ℕ, ℤ, Bool, List, ◌∷◌, length, Option}
use Rattle.std.specs.Arc.{arc_value}
use Rattle.std.specs.List.{filter}
use Rattle.std.specs.List.Sorted.{IsPermutation}
use Rattle.branching.specs.Subproblem.{Subproblem}
use Rattle.book.specs.State.{Named, node_named}
use Rattle.search_log.specs.RightTrail.{children_below}
use Rattle.book.specs.Steps.{named_from}
pub use Rattle.book.specs.declared.open_nodes.Rank.{Rank}
pub use Rattle.book.specs.declared.open_nodes.NodeOwners.{NodeOwners}

abbrev pub open_node : Rank × NodeOwners → Named
open_node e = record { name = e.0.name.0; node = arc_value e.1.node }

-- a node is kept under its bound, and both owners lead to it
pub record IsFiled (e : Rank × NodeOwners) : Type 0 where
  pub bound : e.0.bound ≡ (arc_value e.1.node).bound
  pub twin : arc_value e.1.twin ≡ arc_value e.1.node

abbrev pub IsNamedOtherThan : ℕ → Named → Type 0
IsNamedOtherThan name n = n.name ≢ name

abbrev pub is_older : ℕ → Named → Bool
is_older first n = nat_lt n.name first

-- a node goes in under a name; the nodes of older names stay, and in their order
pub record Inserts (name : ℕ) (node : Subproblem) (old new : List Named) : Type 0 where
  pub nodes : IsPermutation (node_named name node ∷ old) new
  pub older : (first : ℕ) → first ≤ name → filter (is_older first) new ≡ filter (is_older first) old

-- so many children go in: those below the limit, under the names from the first on
pub record InsertsChildren
    (first : ℕ) (limit : Option ℤ) (children : List Subproblem) (count : ℕ) (old new : List Named) : Type 0 where
  pub count_is : count ≡ length (children_below limit children)
  pub nodes : IsPermutation (named_from first (children_below limit children) ++ old) new
  pub older : filter (is_older first) new ≡ old
