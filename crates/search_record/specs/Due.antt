-- The nodes of a record's tree that are due.
use Rattle.std.specs.Prelude.{◌≡◌, ℕ, ◌≤◌, Bool, true, false, if◌then◌else◌, List, [], ◌∷◌, ◌++◌, map, take, Option, MatchOption, length, drop}
use Rattle.network.specs.declared.parts.Pair.{Pair}
use Rattle.network.specs.Problem.{Problem, NameActivities}
pub use Rattle.search_record.specs.declared.due.Later.{Later}
use Rattle.branching.specs.Subproblem.{ordered_pairs}
use Rattle.branching.specs.Path.{Path}
use Rattle.branching.specs.Right.{IsInfeasible}
use Rattle.record_text.specs.declared.line.Line.{Line}
use Rattle.record_text.specs.declared.line.Line.TheVariants as kind
use Rattle.record_text.specs.Tree.{Tree, force, solved, cut, dead, split, Trees, tree}

-- ---- Nodes that come later, told by how they leave the path of the one that is next.

-- the pairs of a later node
abbrev pub pairs_at : List Pair → Later → List Pair
pairs_at path later = take later.depth path ++ later.pair ∷ []

abbrev pub later_at : ℕ → Pair → Later
later_at depth pair = record { depth = depth; pair = pair }

-- the node of the path, if it is there, and then the later ones
abbrev pub nodes_due : Bool → List Pair → List Later → List (List Pair)
nodes_due is_there path later = (if is_there then path ∷ [] else []) ++ map (pairs_at path) later

-- each leaves the path where it ends, or no deeper than the one before it does, by a pair of activities
abbrev pub AreNested : Problem → ℕ → List Later → Type 0
AreNested p depth [] = Unit {0}
AreNested p depth (later ∷ others) =
    (later.depth ≤ depth) × NameActivities p (later.pair ∷ []) × AreNested p later.depth others

-- with pairs of activities added, they are nested still
abbrev pub StayNested : ℕ → List Pair → List Later → List Later → Type 0
StayNested depth pairs old new =
    (p : Problem) → NameActivities p pairs → AreNested p depth old → AreNested p depth new

-- where no node is there, none comes later
abbrev pub IsOver : Bool → List Later → Type 0
IsOver true later = Unit {0}
IsOver false later = later ≡ []

-- the project, and the pairs of each node, the next one first
pub record DueNodes : Type 0 where
  pub project : Problem
  pub nodes : List (List Pair)

-- the later nodes leave the path of the next one
pub record IsDueAlong (is_there : Bool) (next : Path) (later : List Later) : Type 0 where
  pub nested : AreNested next.project (length next.pairs) later
  pub over : IsOver is_there later

-- the root alone is due; none where that is dead
abbrev pub IsRootDue : Problem → Option DueNodes → Type 0
IsRootDue p found =
    MatchOption found (IsInfeasible p []) (λ due. due ≡ record { project = p; nodes = [] ∷ [] })

-- the next node has a pair more
abbrev pub due_forced : Pair → List (List Pair) → List (List Pair)
due_forced pair [] = []
due_forced pair (pairs ∷ nodes) = (pairs ++ pair ∷ []) ∷ nodes

-- the next node is split: a node for each ordered pair of the members stands in its place
abbrev pub due_split : List ℕ → List (List Pair) → List (List Pair)
due_split members [] = []
due_split members (pairs ∷ nodes) = map (λ pair. pairs ++ pair ∷ []) (ordered_pairs members) ++ nodes

-- what is due after a line of the next node
abbrev pub due_after : Line → List (List Pair) → List (List Pair)
due_after (kind.Force pair) nodes = due_forced pair nodes
due_after (kind.Split resource members) nodes = due_split members nodes
due_after leaf nodes = drop 1 nodes

-- ---- The lines of a record's tree, each with the pairs of its node.

-- a line, and the pairs that its node has before it
pub record Place : Type 0 where
  pub pairs : List Pair
  pub line : Line

abbrev pub place : List Pair → Line → Place
place pairs line = record { pairs = pairs; line = line }

-- the lines of a node that begins with these pairs: a forced pair is one more, and the nodes below a split
-- have one more each, the ordered pairs of its members in turn
abbrev mutual
  pub places : List Pair → Tree → List Place
  places pairs (force pair t) = place pairs (kind.Force pair) ∷ places (pairs ++ pair ∷ []) t
  places pairs solved = place pairs kind.Solved ∷ []
  places pairs cut = place pairs kind.Cut ∷ []
  places pairs dead = place pairs kind.Dead ∷ []
  places pairs (split resource members children) =
      place pairs (kind.Split resource members) ∷ child_places pairs (ordered_pairs members) children

  pub child_places : List Pair → List Pair → Trees → List Place
  child_places pairs (pair ∷ more) (tree t ts) = places (pairs ++ pair ∷ []) t ++ child_places pairs more ts
  child_places pairs more ts = []
