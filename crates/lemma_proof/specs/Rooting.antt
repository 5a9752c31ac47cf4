-- Rows of a table that take the way over an arc.
use Rattle.std.specs.Prelude.{ℤ, ◌+ℤ◌, ◌≤ℤ◌, ◌≡◌, ◌<◌, ℕ, List, length}
use Rattle.std.specs.Int.{int_max}
use Rattle.network.specs.declared.parts.Lag.{Lag}
use Rattle.network.specs.declared.limits.TheConstants.{MAX_WALK_WEIGHT}
use Rattle.network.specs.Problem.{IsWithin}
use Rattle.network.specs.Schedule.{start}

-- a row may take the way over the arc and on by via, the row of the arc's end: no sum is large, and a way on from the
-- arc's end is at most what the row says
pub record MayTakeWay (e : Lag) (row via : List ℤ) : Type 0 where
  pub long : length row ≡ length via
  pub from_activity : e.from < length row
  pub to_activity : e.to < length row
  pub light : IsWithin MAX_WALK_WEIGHT e.weight
  pub small : (k : ℕ) → k < length row → IsWithin MAX_WALK_WEIGHT (start row k)
  pub via_small : (k : ℕ) → k < length via → IsWithin MAX_WALK_WEIGHT (start via k)
  pub first_small : (start row e.from +ℤ e.weight) ≤ℤ MAX_WALK_WEIGHT
  pub closed : (k : ℕ) → k < length row → (start row e.to +ℤ start via k) ≤ℤ start row k

-- each entry is the old one, or the way over the arc and on by via
pub record HasTakenWay (e : Lag) (via old new : List ℤ) : Type 0 where
  pub long : length new ≡ length old
  pub taken : (k : ℕ) → k < length old → start new k ≡ int_max (start old k) ((start old e.from +ℤ e.weight) +ℤ start via k)
