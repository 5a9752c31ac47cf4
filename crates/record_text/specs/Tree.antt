-- The tree of a record, and its lines.
use Rattle.std.specs.Prelude.{◌≡◌, ℕ, suc, ◌-◌, ◌*◌, ◌<◌, List, [], ◌∷◌, ◌++◌, length, ◌+◌}
use Rattle.network.specs.declared.parts.Pair.{Pair}
pub use Rattle.record_text.specs.declared.line.Line.{Line}
use Rattle.record_text.specs.declared.line.Line.TheVariants as kind
pub use Rattle.record_text.specs.declared.line.Claim.{Claim}
use Rattle.record_text.specs.Kinds.{RecordOf}

-- a node: forced pairs, then a leaf, or a split of a resource's members with a node for each ordered
-- pair of them
mutual
  pub data Tree : Type 0 where
    force : Pair → Tree → Tree
    solved : Tree
    cut : Tree
    dead : Tree
    split : ℕ → List ℕ → Trees → Tree

  pub data Trees : Type 0 where
    no_trees : Trees
    tree : Tree → Trees → Trees

abbrev pub count_trees : Trees → ℕ
count_trees no_trees = 0
count_trees (tree t ts) = suc (count_trees ts)

-- so many ordered pairs have the members, by their places
abbrev pub pair_count : List ℕ → ℕ
pair_count members = length members * (length members - 1)

-- each split has a member or more, and a node for each ordered pair of them
abbrev mutual
  pub IsTree : Tree → Type 0
  IsTree (force pair t) = IsTree t
  IsTree (split resource members children) = (0 < length members) × (count_trees children ≡ pair_count members) × AreTrees children
  IsTree leaf = Unit {0}

  pub AreTrees : Trees → Type 0
  AreTrees no_trees = Unit {0}
  AreTrees (tree t ts) = IsTree t × AreTrees ts

-- the lines of a node, those of the nodes below it in their order
abbrev mutual
  pub lines_of : Tree → List Line
  lines_of (force pair t) = kind.Force pair ∷ lines_of t
  lines_of solved = kind.Solved ∷ []
  lines_of cut = kind.Cut ∷ []
  lines_of dead = kind.Dead ∷ []
  lines_of (split resource members children) = kind.Split resource members ∷ lines_of_all children

  pub lines_of_all : Trees → List Line
  lines_of_all no_trees = []
  lines_of_all (tree t ts) = lines_of t ++ lines_of_all ts

-- ---- Which lists of lines are those of a tree, by a count of the nodes that must still come.

-- how many nodes must still come after a line, where so many had to before it
abbrev pub still_due : ℕ → Line → ℕ
still_due due (kind.Force pair) = due
still_due due (kind.Split resource members) = due - 1 + pair_count members
still_due due leaf = due - 1

abbrev pub HasMembers : Line → Type 0
HasMembers (kind.Split resource members) = 0 < length members
HasMembers line = Unit {0}

-- these lines are just so many nodes
abbrev pub Completes : ℕ → List Line → Type 0
Completes due [] = due ≡ 0
Completes due (line ∷ lines) = (0 < due) × HasMembers line × Completes (still_due due line) lines

abbrev pub count_members : Line → ℕ
count_members (kind.Split resource members) = length members
count_members line = 0

-- ---- What a record of a search says.

-- a claim, and the lines of the tree that shows it
abbrev pub SearchRecord : Type 0
SearchRecord = RecordOf Claim Line

-- the tree whose lines these are
pub record IsTreeOf (lines : List Line) (t : Tree) : Type 0 where
  pub shape : IsTree t
  pub spelled : lines_of t ≡ lines
