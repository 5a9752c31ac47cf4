-- What is kept of a block while the lines of a lemma's proof are checked.
use Rattle.std.specs.Prelude.{◌≡◌, ◌<◌, ℕ, Bool, true, false, List, ◌++◌, length, Option, None, Some, IfSome}
use Rattle.network.specs.declared.parts.Lag.{Lag}
use Rattle.network.specs.Walk.{Rows, HasPositiveCycle, HasNoPositiveCycle, IsMatrixOf}
use Rattle.longest_path.specs.Matrix.{IsFull}
use Rattle.longest_path.specs.Saved.{Marked}
use Rattle.lemma_proof.specs.Block.{BlockOf}

-- the matrix of the root's arcs, the arcs beside it, the matrix of all arcs if it was made, and whether they close a
-- walk of positive weight
pub record BenchOf : Type 0 where
  pub rows : Rows
  pub more : List Lag
  pub dense : Option Marked
  pub is_infeasible : Bool

abbrev pub bench_of : Rows → BlockOf → Option Marked → Bool → BenchOf
bench_of rows block dense is_infeasible = record { rows = rows; more = block.more; dense = dense; is_infeasible = is_infeasible }

-- a matrix of all arcs is as wide as that of the root's, and in both every activity reaches every other
pub record IsWide (n : ℕ) (d : Marked) : Type 0 where
  pub long : length d.rows ≡ n
  pub full : IsFull d.rows

pub record IsBench (rows : Rows) (block : BlockOf) (dense : Option Marked) : Type 0 where
  pub same : block.rows ≡ rows
  pub full : IsFull rows
  pub some : 0 < length rows
  pub wide : IfSome dense (IsWide (length rows))

-- beside the root's arcs are these, which close no walk of positive weight with them, or this is the matrix of all
abbrev pub AreKept : ℕ → List Lag → List Lag → List Lag → Option Marked → Type 0
AreKept n own arcs more None = (more ≡ arcs) × HasNoPositiveCycle (own ++ arcs)
AreKept n own arcs more (Some dense) = IsMatrixOf n (own ++ arcs) dense.rows

abbrev pub IsKnownOf : ℕ → List Lag → List Lag → Bool → List Lag → Option Marked → Type 0
IsKnownOf n own arcs true more dense = HasPositiveCycle (own ++ arcs)
IsKnownOf n own arcs false more dense = AreKept n own arcs more dense

-- this is the matrix of all arcs
abbrev pub IsMatrixOfAll : ℕ → List Lag → List Lag → Option Marked → Type 0
IsMatrixOfAll n own arcs None = ⊥
IsMatrixOfAll n own arcs (Some dense) = IsMatrixOf n (own ++ arcs) dense.rows

-- these are the root's arcs, and those of the block beside them
pub record Holds (own arcs : List Lag) (x : BenchOf) : Type 0 where
  pub root : IsMatrixOf (length x.rows) own x.rows
  pub known : IsKnownOf (length x.rows) own arcs x.is_infeasible x.more x.dense
