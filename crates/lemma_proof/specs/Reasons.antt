-- Why no feasible schedule meets all arcs of a block: what walks over them show of each schedule that does.
use Rattle.std.specs.Prelude.{◌≡◌, ℕ, ◌*◌, ◌<◌, ◌≤◌, ◌⊎◌, ℤ, pos, ◌+ℤ◌, ◌-ℤ◌, ◌≤ℤ◌, ◌<ℤ◌, unsigned_abs, List, [], ◌∷◌}
use Rattle.std.specs.Prelude.{◌++◌, length, Option, None, Some, map, Bool, true, IsTrue}
use Rattle.std.specs.List.{All, AllPairs, sum_by, range_with_len}
use Rattle.network.specs.declared.parts.Lag.{Lag}
use Rattle.network.specs.declared.parts.Pair.{Pair}
use Rattle.network.specs.Problem.{Problem, activities, activity_count, resource_count, duration, demand, capacity, IsWithin}
use Rattle.network.specs.Walk.{HasNoPositiveCycle, Rows, entry, IsMatrixOf}
use Rattle.longest_path.specs.Insert.{arc_of, rows_over}
pub use Rattle.lemma_proof.specs.Implied.{Implies}
use Rattle.lemma_proof.specs.Implied.{ImpliesWith}
use Rattle.lemma_proof.specs.Block.{BlockOf, seen}
use Rattle.forbidden_sets.specs.Incompatible.{AreIncompatible}
use Rattle.schedule_check.specs.Members.{AreMembers}
use Rattle.std.specs.Int.{int_max, int_min}
use Rattle.lemma_proof.specs.declared.weights.TheConstants.{MAX_REVERSE_WEIGHT}

-- both ends are activities
abbrev pub JoinsActivities : Problem → Lag → Type 0
JoinsActivities p e = (e.from < activity_count p) × (e.to < activity_count p)

-- the arc that is met where this one isn't: times are whole numbers
abbrev pub reverse_of : Lag → Lag
reverse_of e = arc_of e.to e.from (pos 1 -ℤ e.weight)

-- activity i ends after j starts
abbrev pub EndsAfterStart : Problem → List Lag → ℕ → ℕ → Type 0
EndsAfterStart p arcs i j = Implies arcs (arc_of j i (pos 1 -ℤ duration p i))

-- activity i runs for m units of the window or more, whenever it starts
pub record MustRun (p : Problem) (arcs : List Lag) (from to : ℤ) (i m : ℕ) : Type 0 where
  pub within_activity : pos m ≤ℤ duration p i
  pub within_window : (from +ℤ pos m) ≤ℤ to
  pub late : Implies arcs (arc_of 0 i ((from +ℤ pos m) -ℤ duration p i))
  pub early : Implies arcs (arc_of i 0 (pos m -ℤ to))

-- what must run in the window asks for more of the resource than there is in it
pub record IsLoad (p : Problem) (arcs : List Lag) (resource : ℕ) (from to : ℤ) : Type 0 where
  pub in_range : resource < resource_count p
  pub units : ℕ
  pub some : 0 < units
  pub window : to ≡ from +ℤ pos units
  pub parts : ℕ → ℕ
  pub each : (i : ℕ) → i < activity_count p → (parts i ≡ 0) ⊎ MustRun p arcs from to i (parts i)
  pub over : units * capacity p resource < sum_by (λ i. parts i * demand p resource i) (activities p)

abbrev pub pair_of : ℕ → ℕ → Pair
pair_of i j = record { before = i; after = j }

-- activity i runs within the window, whenever it starts
pub record RunsWithin (p : Problem) (arcs : List Lag) (from to : ℤ) (i : ℕ) : Type 0 where
  pub late : Implies arcs (arc_of 0 i from)
  pub early : Implies arcs (arc_of i 0 (duration p i -ℤ to))

-- activity j starts once i has ended
abbrev pub StartsAfterEnd : Problem → List Lag → ℕ → ℕ → Type 0
StartsAfterEnd p arcs i j = Implies arcs (arc_of i j (duration p i))

-- the two don't run at the same time: they are rivals, or in an order
abbrev pub RunApart : Problem → List Lag → ℕ → ℕ → Type 0
RunApart p arcs i j = AreIncompatible p (pair_of i j) ⊎ (StartsAfterEnd p arcs i j ⊎ StartsAfterEnd p arcs j i)

-- the members run one at a time, all within the window, and take longer than it is
pub record IsClique (p : Problem) (arcs : List Lag) (from to : ℤ) (members : List ℕ) : Type 0 where
  pub several : 2 ≤ length members
  pub are_members : AreMembers p members
  pub apart : AllPairs (RunApart p arcs) members
  pub inside : All (RunsWithin p arcs from to) members
  pub over : to <ℤ (from +ℤ pos (sum_by (λ i. unsigned_abs (duration p i)) members))

-- ---- How long an activity runs in a window at least, by the greatest weights from the start and back to it.

-- the least of its duration, the window's length, what is left of it after the window begins where it starts as early
-- as it can, and what is left of the window where it starts as late as it can; none without these weights
abbrev pub least_part : ℤ → ℤ → ℤ → Option ℤ → Option ℤ → ℕ
least_part duration from to (Some head) (Some back) =
    let early = int_min (int_min duration (to -ℤ from)) ((head +ℤ duration) -ℤ from) in
    unsigned_abs (int_max (int_min early (to +ℤ back)) (pos 0))
least_part duration from to (Some head) None = 0
least_part duration from to None back = 0

abbrev pub part_of : Problem → Rows → ℤ → ℤ → ℕ → ℕ
part_of p rows from to i = least_part (duration p i) from to (entry rows 0 i) (entry rows i 0)

-- what these activities ask of a resource in the window at least
abbrev pub load_of : Problem → Rows → ℕ → ℤ → ℤ → List ℕ → ℕ
load_of p rows resource from to those = sum_by (λ i. part_of p rows from to i * demand p resource i) those

-- ---- The matrix of a block, and of a block with one arc more.

-- the rows with the arc, if there is one
abbrev pub rows_with : Option Lag → Rows → Rows
rows_with None rows = rows
rows_with (Some e) rows = rows_over e rows

-- the arc may be added
pub record MayBeAdded (rows : Rows) (e : Lag) : Type 0 where
  pub from_vertex : e.from < length rows
  pub to_vertex : e.to < length rows
  pub light : IsWithin MAX_REVERSE_WEIGHT e.weight

abbrev pub MayBeWith : Option Lag → Rows → Type 0
MayBeWith None rows = Unit {0}
MayBeWith (Some e) rows = MayBeAdded rows e

-- ---- What is known of the walks over the arcs of a block.

-- weights of walks, and arcs beside a matrix
pub record Entries : Type 0 where
  pub rows : Rows
  pub own : Rows
  pub more : List Lag

-- those of a matrix
abbrev pub entries_of_matrix : Rows → Entries
entries_of_matrix rows = record { rows = rows; own = rows; more = [] }

-- the weights of walks that are easily seen
abbrev pub seen_row : Rows → List ℤ → List ℤ → ℕ → List (Option ℤ)
seen_row rows heads tails a = map (seen rows heads tails a) (range_with_len 0 (length rows))

abbrev pub seen_rows : Rows → List ℤ → List ℤ → Rows
seen_rows rows heads tails = map (seen_row rows heads tails) (range_with_len 0 (length rows))

-- those of a block, or of its trial with an arc more
abbrev pub entries_of_block : Option Lag → BlockOf → Entries
entries_of_block None x = record { rows = seen_rows x.rows x.heads x.tails; own = x.rows; more = x.more }
entries_of_block (Some e) x = record { rows = seen_rows x.rows x.tried_heads x.tried_tails; own = x.rows; more = x.more ++ e ∷ [] }

-- no closed walk over the arcs is positive, each weight is at most that of a walk, and what the arcs beside the matrix
-- imply with it, these do
pub record AreBelow (n : ℕ) (arcs : List Lag) (x : Entries) : Type 0 where
  pub no_cycle : HasNoPositiveCycle arcs
  pub walks : (a b : ℕ) (w : ℤ) → a < n → b < n → entry x.rows a b ≡ Some w → Implies arcs (arc_of a b w)
  pub beside : (e : Lag) → ImpliesWith n x.own x.more e → Implies arcs e

-- the same, and if it is exact, the weights are the matrix of the arcs
pub record IsKnown (exact : Bool) (n : ℕ) (arcs : List Lag) (x : Entries) : Type 0 where
  pub below : AreBelow n arcs x
  pub matrix : exact ≡ true → IsMatrixOf n arcs x.rows

-- where the answer is yes, the fact holds; and where what is known is exact, only there
pub record Tells (exact answer : Bool) (P : Type 0) : Type 0 where
  pub shown : IsTrue answer → P
  pub only : exact ≡ true → P → IsTrue answer

-- the answer tells by what is known of the arcs whether they have the property
abbrev pub TellsWhether : ℕ → Entries → Bool → (List Lag → Type 0) → Type 0
TellsWhether n x answer P = (exact : Bool) (arcs : List Lag) → IsKnown exact n arcs x → Tells exact answer (P arcs)
