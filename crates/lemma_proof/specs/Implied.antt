-- What walks over some arcs imply.
use Rattle.std.specs.Prelude.{ℤ, ◌+ℤ◌, ◌≤ℤ◌, ◌≡◌, ◌<◌, ℕ, List, ◌++◌, Some}
use Rattle.network.specs.declared.parts.Lag.{Lag}
use Rattle.network.specs.Schedule.{start}
use Rattle.network.specs.Walk.{IsWalk, weight, IsMatrixOf, Rows, entry}
use Rattle.longest_path.specs.Insert.{arc_of}

-- the arcs imply this one: some walk between its ends weighs at least as much
pub record Implies (arcs : List Lag) (e : Lag) : Type 0 where
  pub walk : List Lag
  pub goes : IsWalk arcs e.from walk e.to
  pub weighs : e.weight ≤ℤ weight walk

-- whatever arcs the rows are the matrix of, with these more they imply the arc
abbrev pub ImpliesWith : ℕ → Rows → List Lag → Lag → Type 0
ImpliesWith n rows more e = (own : List Lag) → IsMatrixOf n own rows → Implies (own ++ more) e

-- the starts meet each entry of the matrix
abbrev pub MeetsRows : Rows → List ℤ → Type 0
MeetsRows rows s = (a b : ℕ) (w : ℤ) → entry rows a b ≡ Some w → (start s a +ℤ w) ≤ℤ start s b

-- each of these is at most the weight of a walk from 0
abbrev pub AreReached : ℕ → Rows → List Lag → List ℤ → Type 0
AreReached n rows more s = (i : ℕ) → i < n → ImpliesWith n rows more (arc_of 0 i (start s i))
