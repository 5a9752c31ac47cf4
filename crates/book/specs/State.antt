-- The state of the search book: the best schedule so far, the nodes that are open or in hand, and counts.
use Rattle.std.specs.Prelude.{◌≡◌, ℕ, ℤ, Bool, List, [], ◌∷◌, ◌++◌, Option, Some, None, slice_get, ◌+◌, length, option_map}
use Rattle.network.specs.Problem.{Problem}
use Rattle.network.specs.Schedule.{ScheduleOf}
use Rattle.branching.specs.Subproblem.{Subproblem}
use Rattle.branching.specs.Fair.{ceiling_of}
use Rattle.search_log.specs.SearchLog.{Entry}
use Rattle.std.specs.Arc.{arc_value}
use Rattle.book.specs.declared.counts.Counts.{Counts}
pub use Rattle.book.specs.declared.hands.Held.{Held}

-- a node that is open or in hand, and the name that it was opened under
pub record Named : Type 0 where
  pub name : ℕ
  pub node : Subproblem

pub record BookState : Type 0 where
  pub project : Problem
  pub best : Option ScheduleOf
  -- the open nodes, in any order
  pub waiting : List Named
  -- what each worker has in hand
  pub hands : List (Option Named)
  -- how many nodes were opened, were checked in, were cut, and were taken
  pub opened : ℕ
  pub checked : ℕ
  pub cut : ℕ
  pub taken : ℕ
  -- how many may be taken
  pub limit : ℕ
  pub halted : Bool
  -- what became of each node; none where that isn't kept
  pub trail : Option (List Entry)

-- the node under this name
abbrev pub node_named : ℕ → Subproblem → Named
node_named name node = record { name = name; node = node }

-- the worker is there and has this node in hand
abbrev pub Holds : List (Option Named) → ℕ → Named → Type 0
Holds hands worker held = slice_get hands worker ≡ Some (Some held)

-- the nodes in hand
abbrev pub in_hand : List (Option Named) → List Named
in_hand [] = []
in_hand (None ∷ hands) = in_hand hands
in_hand (Some held ∷ hands) = held ∷ in_hand hands

-- the nodes that are open or in hand
abbrev pub live : BookState → List Named
live s = s.waiting ++ in_hand s.hands

-- the makespan of the best schedule
abbrev pub best_makespan : BookState → Option ℤ
best_makespan s = ceiling_of s.best

-- ---- How many nodes there are and were.

abbrev pub counts_of : BookState → Counts
counts_of s = record {
  opened = s.opened;
  checked = s.checked;
  cut = s.cut;
  taken = s.taken;
  waiting = length s.waiting;
  hand = length (in_hand s.hands);
}

-- each node that was opened was checked in, was cut, is open or is in hand
abbrev pub AddUp : Counts → Type 0
AddUp c = c.opened ≡ c.checked + c.cut + c.waiting + c.hand

-- ---- The nodes in hand, as they are kept.

abbrev pub held_node : Held → Named
held_node h = node_named h.name (arc_value h.node)

abbrev pub hand_of : Option Held → Option Named
hand_of hand = option_map held_node hand
