-- What becomes of a trail when a node that it tells of ends, and when children are opened.
use Rattle.std.specs.Prelude.{ℕ, ◌+◌, ◌<◌, ◌^◌, ℤ, Bool, true, false, if◌then◌else◌, Option, None, Some, option_map}
use Rattle.std.specs.Prelude.{List, [], ◌∷◌, ◌++◌, map, length, drop, slice_get, slice_set}
use Rattle.network.specs.declared.parts.Pair.{Pair}
use Rattle.network.specs.Schedule.{ScheduleOf}
use Rattle.forbidden_sets.specs.MinimalSet.{MinimalSet}
use Rattle.branching.specs.Subproblem.{Subproblem}
use Rattle.branching.specs.Fates.{FateOf, Fates, is_child, is_infeasible, is_cut}
use Rattle.branching.specs.Fair.{Expansion}
use Rattle.branching.specs.Right.{is_below}
use Rattle.search_log.specs.RightTrail.{children_below}
use Rattle.search_log.specs.SearchLog.{Ending, not_ended, was_cut, was_solved, was_split, Entry, TrailOf, entry_at, Origin}

-- the node under a name ends so
abbrev pub ended_as : List Entry → ℕ → Ending → List Entry
ended_as entries name ending = slice_set entries name (record (entry_at entries name) { ending = ending })

-- where a child came from: its parent, and the pair that gave it
abbrev pub origin_of : ℕ → Pair → Origin
origin_of parent pair = record { parent = parent; pair = pair }

-- the entry of a child, whose parent has this name and so many pairs
abbrev pub child_entry : ℕ → ℕ → Subproblem → Entry
child_entry parent depth child =
    record {
      origin = option_map (origin_of parent) (slice_get child.pairs depth);
      forced = drop (depth + 1) child.pairs;
      ending = not_ended;
    }

-- what a pair that gave a child gave the search: a node under the next name where the child is opened
abbrev pub opened_or_cut : Bool → ℕ → List Pair → FateOf ℕ
opened_or_cut true next forced = is_child next
opened_or_cut false next forced = is_cut forced

-- the fate of a child's pair: the child is opened where it is below the limit
abbrev pub child_fate : Option ℤ → ℕ → ℕ → Subproblem → FateOf ℕ
child_fate limit depth next child = opened_or_cut (is_below limit child.bound) next (drop (depth + 1) child.pairs)

-- the name that comes next after the child
abbrev pub next_name : Option ℤ → ℕ → Subproblem → ℕ
next_name limit next child = if is_below limit child.bound then next + 1 else next

-- the fates of a split's pairs, where the children below the limit are opened under the names from the next on
abbrev pub fates_under : Option ℤ → ℕ → ℕ → Fates → List Subproblem → List (FateOf ℕ)
fates_under limit depth next [] children = []
fates_under limit depth next (is_infeasible forced ∷ fates) children = is_infeasible forced ∷ fates_under limit depth next fates children
fates_under limit depth next (is_cut forced ∷ fates) children =
    is_cut forced ∷ fates_under limit depth next fates children
fates_under limit depth next (is_child k ∷ fates) (child ∷ children) =
    child_fate limit depth next child ∷ fates_under limit depth (next_name limit next child) fates children
-- there is a child for each such fate
fates_under limit depth next (is_child k ∷ fates) [] = []

-- how a node ended, by the set that was split, or by what was found where none was
abbrev pub ending_by : Option MinimalSet → Option ScheduleOf → List (FateOf ℕ) → Ending
ending_by None None fates = was_cut
ending_by None (Some found) fates = was_solved
ending_by (Some set) found fates = was_split set.resource set.members fates

-- how the node of a report ended, where the children below the limit are opened under the names from the next on
abbrev pub ending_of : Option ℤ → ℕ → Expansion → Ending
ending_of limit next report =
    ending_by report.split report.found
    (fates_under limit (length report.node.pairs) next report.fates report.children)

-- the node of a report ends, and the children below the limit are opened
abbrev pub checked_in : Option ℤ → ℕ → Expansion → List Entry → List Entry
checked_in limit name report entries =
    ended_as entries name (ending_of limit (length entries) report)
    ++ map (child_entry name (length report.node.pairs)) (children_below limit report.children)

-- the trail has the node under the name, and names for all children of its report
abbrev pub MayNote : ℕ → Expansion → TrailOf → Type 0
MayNote name report trail =
    (name < length trail.entries) × (length trail.entries + length report.children < 2 ^ 64)
