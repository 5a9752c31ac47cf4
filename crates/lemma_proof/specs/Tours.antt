-- Why no feasible schedule meets all arcs of a block: intervals that lie one after another, and are too long for a window.
use Rattle.std.specs.Prelude.{ℕ, ℤ, pos, ◌+◌, ◌<◌, ◌⊎◌, ◌+ℤ◌, ◌-ℤ◌, ◌<ℤ◌, List, length, slice_index_or}
use Rattle.std.specs.List.{All, AllPairs, sum_by}
use Rattle.network.specs.declared.parts.Lag.{Lag}
use Rattle.network.specs.Problem.{Problem, activity_count}
use Rattle.longest_path.specs.Insert.{arc_of}
use Rattle.lemma_proof.specs.declared.line.Interval.{Interval}
use Rattle.lemma_proof.specs.Implied.{Implies}
use Rattle.lemma_proof.specs.Slots.{HaveDelays, IsSmall, Slots, delay}

-- an interval of an activity, within the limits
pub record IsInterval (p : Problem) (m : Interval) : Type 0 where
  pub named : m.activity < activity_count p
  pub small : IsSmall m

-- the second interval begins once the first has ended
abbrev pub BeginsAfterEnd : List Lag → Interval → Interval → Type 0
BeginsAfterEnd arcs m k = Implies arcs (arc_of m.activity k.activity (delay m k))

-- the two have no time in common: one begins once the other has ended, by a walk, or by a lemma that says delays
abbrev pub LieApart : Slots → List Lag → Interval → Interval → Type 0
LieApart lemmas arcs m k = BeginsAfterEnd arcs m k ⊎ (BeginsAfterEnd arcs k m ⊎ HaveDelays lemmas m k)

-- the interval lies within the window, whenever its activity starts
pub record LiesWithin (arcs : List Lag) (from to : ℤ) (m : Interval) : Type 0 where
  pub late : Implies arcs (arc_of 0 m.activity (from -ℤ m.at))
  pub early : Implies arcs (arc_of m.activity 0 ((m.at +ℤ pos m.length) -ℤ to))

-- their activities rise
abbrev pub Rise : List Interval → Type 0
Rise intervals =
    (k : ℕ) (d : Interval) → k + 1 < length intervals →
    (slice_index_or intervals k d).activity < (slice_index_or intervals (k + 1) d).activity

-- one interval or more of different activities: they lie one after another, all within the window, and are longer than it
pub record IsTour (p : Problem) (lemmas : Slots) (arcs : List Lag) (from to : ℤ) (intervals : List Interval) : Type 0 where
  pub some : 0 < length intervals
  pub rising : Rise intervals
  pub are_intervals : All (IsInterval p) intervals
  pub inside : All (LiesWithin arcs from to) intervals
  pub apart : AllPairs (LieApart lemmas arcs) intervals
  pub over : to <ℤ (from +ℤ pos (sum_by (λ m. m.length) intervals))
