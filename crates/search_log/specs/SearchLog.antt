-- What a trail knows of each node that was opened: where it came from, which pairs were forced, and
-- how it ended.
use Rattle.std.specs.Prelude.{ℕ, List, [], ◌∷◌, ◌++◌, Option, None, Some, slice_index_or, map}
use Rattle.network.specs.declared.parts.Pair.{Pair}
use Rattle.network.specs.Problem.{Problem}
pub use Rattle.search_log.specs.declared.log.Origin.{Origin}
use Rattle.std.specs.Arc.{arc_value}
use Rattle.branching.specs.Fates.{FateOf, fate_value}
use Rattle.search_log.specs.declared.log.NodeEnding.{NodeEnding}
use Rattle.search_log.specs.declared.log.NodeEnding.TheVariants as ending
pub use Rattle.search_log.specs.declared.log.NodeEntry.{NodeEntry}
use Rattle.search_log.specs.declared.log.SearchLog.TheInside.{Inside}

-- how a node ended: split by a set of activities that need too much of a resource, if it has ended at all
pub data Ending : Type 0 where
  not_ended : Ending
  was_cut : Ending
  was_solved : Ending
  was_split : ℕ → List ℕ → List (FateOf ℕ) → Ending

pub record Entry : Type 0 where
  pub origin : Option Origin
  pub forced : List Pair
  pub ending : Ending

-- what a `SearchLog` is: the project, and an entry for each name from 0 on
pub record TrailOf : Type 0 where
  pub project : Problem
  pub entries : List Entry

-- a node that was not opened
abbrev pub no_entry : Entry
no_entry = record { origin = None; forced = []; ending = not_ended }

-- what is known of the node under a name
abbrev pub entry_at : List Entry → ℕ → Entry
entry_at entries name = slice_index_or entries name no_entry

-- the pairs of a node, where those of the earlier names are known: its parent's, its own pair, and what that forces
abbrev pub path_after : List (List Pair) → Option Origin → List Pair → List Pair
path_after paths None forced = forced
path_after paths (Some origin) forced = slice_index_or paths origin.parent [] ++ origin.pair ∷ forced

abbrev pub paths_after : List (List Pair) → List Entry → List (List Pair)
paths_after paths [] = paths
paths_after paths (entry ∷ entries) = paths_after (paths ++ path_after paths entry.origin entry.forced ∷ []) entries

-- the pairs of the node under a name
abbrev pub path_to : List Entry → ℕ → List Pair
path_to entries name = slice_index_or (paths_after [] entries) name []

-- ---- A trail's parts, as contracts see them.

abbrev pub node_ending : NodeEnding → Ending
node_ending ending.Open = not_ended
node_ending ending.Cut = was_cut
node_ending ending.Solved = was_solved
node_ending (ending.Split resource members fates) = was_split resource members.items (map fate_value fates.items)

abbrev pub trail_entry : NodeEntry → Entry
trail_entry e = record { origin = e.origin; forced = e.forced.items; ending = node_ending e.ending }

abbrev pub trail_of : Inside → TrailOf
trail_of t = record { project = arc_value t.project; entries = map trail_entry t.entries.items }

-- the trail with other entries
abbrev pub with_entries : (List Entry → List Entry) → TrailOf → TrailOf
with_entries f trail = record { project = trail.project; entries = f trail.entries }

-- the trail of a project with these entries
abbrev pub trail_for : Problem → List Entry → TrailOf
trail_for p entries = record { project = p; entries = entries }
