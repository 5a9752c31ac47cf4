-- Heads: the weights of walks from 0 over a matrix and arcs beside it.
use Rattle.std.specs.Prelude.{ℤ, ◌≡◌, ◌<◌, ℕ, List, Some, map, length, Vec}
use Rattle.std.specs.declared.alloc.Global.{Global}
use Rattle.std.specs.List.{Contains}
use Rattle.network.specs.declared.parts.Lag.{Lag}
use Rattle.network.specs.declared.limits.TheConstants.{MAX_WALK_WEIGHT}
use Rattle.network.specs.Problem.{IsWithin}
use Rattle.network.specs.Schedule.{start}
use Rattle.network.specs.Walk.{Rows, entry}
use Rattle.longest_path.specs.Matrix.{IsMatrix, IsFull}

-- the rows of a table, in which every entry is there
abbrev pub rows_of : List (List ℤ) → Rows
rows_of table = map (λ row. map Some row) table

-- the cells of each row of a table
abbrev pub cells_of : List (Vec ℤ Global) → List (List ℤ)
cells_of table = map (λ row. row.items) table

abbrev pub table_rows : List (Vec ℤ Global) → Rows
table_rows table = rows_of (cells_of table)

-- a matrix, arcs beside it that don't touch 0, and the weights of walks from 0 over both; and weights for a trial
pub record HeadsOf : Type 0 where
  pub rows : Rows
  pub arcs : List Lag
  pub heads : List ℤ
  pub tried : List ℤ

-- an arc between two of n activities, which weighs no more than a walk may
pub record IsLight (n : ℕ) (e : Lag) : Type 0 where
  pub from_activity : e.from < n
  pub to_activity : e.to < n
  pub light : IsWithin MAX_WALK_WEIGHT e.weight

-- a matrix of one activity or more, in which every activity reaches every other
pub record IsTable (rows : Rows) : Type 0 where
  pub matrix : IsMatrix rows
  pub full : IsFull rows
  pub some : 0 < length rows

-- there is a weight for each activity
pub record AreHeads (x : HeadsOf) : Type 0 where
  pub table : IsTable x.rows
  pub arcs_light : (e : Lag) → Contains x.arcs e → IsLight (length x.rows) e
  pub heads_long : length x.heads ≡ length x.rows
  pub tried_long : length x.tried ≡ length x.rows

-- the cells are row a, in which every entry is there
pub record IsRowAt (rows : Rows) (a : ℕ) (cells : List ℤ) : Type 0 where
  pub long : length cells ≡ length rows
  pub says : (b : ℕ) → b < length rows → entry rows a b ≡ Some (start cells b)
