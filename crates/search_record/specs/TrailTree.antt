-- The tree that a trail tells of, and how its lines come one after another.
use Rattle.std.specs.Prelude.{ℕ, zero, suc, ◌<◌, List, [], ◌∷◌, ◌++◌, map, length}
use Rattle.network.specs.declared.parts.Pair.{Pair}
use Rattle.branching.specs.Fates.{FateOf, is_child, is_infeasible, is_cut}
use Rattle.search_log.specs.SearchLog.{Ending, not_ended, was_cut, was_solved, was_split, Entry, entry_at}
use Rattle.record_text.specs.declared.line.Line.{Line}
use Rattle.record_text.specs.declared.line.Line.TheVariants as kind
use Rattle.record_text.specs.Tree.{Tree, force, solved, cut, dead, split, Trees, no_trees, tree}

-- the forced pairs, and then the tree
abbrev pub with_forced : List Pair → Tree → Tree
with_forced [] t = t
with_forced (pair ∷ forced) t = force pair (with_forced forced t)

-- the tree of a pair, where those under the names are known
abbrev pub fate_tree : (ℕ → Tree) → FateOf ℕ → Tree
fate_tree named (is_child name) = named name
fate_tree named (is_infeasible forced) = with_forced forced dead
fate_tree named (is_cut forced) = with_forced forced cut

abbrev pub fate_trees : (ℕ → Tree) → List (FateOf ℕ) → Trees
fate_trees named [] = no_trees
fate_trees named (fate ∷ fates) = tree (fate_tree named fate) (fate_trees named fates)

-- how a node ended; one that has not ended stands as dead
abbrev pub ending_tree : (ℕ → Tree) → Ending → Tree
ending_tree named not_ended = dead
ending_tree named was_cut = cut
ending_tree named was_solved = solved
ending_tree named (was_split resource members fates) = split resource members (fate_trees named fates)

abbrev pub entry_tree : (ℕ → Tree) → Entry → Tree
entry_tree named entry = with_forced entry.forced (ending_tree named entry.ending)

-- the tree under a name, followed so many names deep
abbrev pub tree_within : List Entry → ℕ → ℕ → Tree
tree_within entries zero name = dead
tree_within entries (suc depth) name = entry_tree (tree_within entries depth) (entry_at entries name)

-- and to its end, since children have later names; without entries it is dead
abbrev pub tree_under : List Entry → ℕ → Tree
tree_under entries name = tree_within entries (length entries) name

-- ---- the lines of a node, and the fates of the nodes below it

abbrev pub ending_line : Ending → Line
ending_line not_ended = kind.Dead
ending_line was_cut = kind.Cut
ending_line was_solved = kind.Solved
ending_line (was_split resource members fates) = kind.Split resource members

abbrev pub ending_fates : Ending → List (FateOf ℕ)
ending_fates not_ended = []
ending_fates was_cut = []
ending_fates was_solved = []
ending_fates (was_split resource members fates) = fates

-- a line for each forced pair, and the one that a node ends with
abbrev pub node_lines : List Pair → Line → List Line
node_lines forced last = map kind.Force forced ++ last ∷ []

-- the lines of a pair's own node
abbrev pub fate_lines : List Entry → FateOf ℕ → List Line
fate_lines entries (is_child name) =
    node_lines (entry_at entries name).forced (ending_line (entry_at entries name).ending)
fate_lines entries (is_infeasible forced) = node_lines forced kind.Dead
fate_lines entries (is_cut forced) = node_lines forced kind.Cut

-- the fates of the nodes below it
abbrev pub fates_behind : List Entry → FateOf ℕ → List (FateOf ℕ)
fates_behind entries (is_child name) = ending_fates (entry_at entries name).ending
fates_behind entries (is_infeasible forced) = []
fates_behind entries (is_cut forced) = []

-- ---- names

-- a name in the fate is one of so many
abbrev pub IsNamed : ℕ → FateOf ℕ → Type 0
IsNamed count (is_child later) = later < count
IsNamed count (is_infeasible forced) = Unit {0}
IsNamed count (is_cut forced) = Unit {0}

-- and later than this one
abbrev pub LeadsOn : ℕ → ℕ → FateOf ℕ → Type 0
LeadsOn count name (is_child later) = (name < later) × (later < count)
LeadsOn count name (is_infeasible forced) = Unit {0}
LeadsOn count name (is_cut forced) = Unit {0}

abbrev pub LeadOn : ℕ → ℕ → List (FateOf ℕ) → Type 0
LeadOn count name [] = Unit {0}
LeadOn count name (fate ∷ fates) = LeadsOn count name fate × LeadOn count name fates

-- each node's children have later names
abbrev pub ChildrenAreLater : List Entry → Type 0
ChildrenAreLater entries =
    (name : ℕ) → name < length entries → LeadOn (length entries) name (ending_fates (entry_at entries name).ending)
