-- The rows and the columns of a matrix as tables.
use Rattle.std.specs.Prelude.{ℤ, pos, ℕ, List, map, length}
use Rattle.std.specs.List.{range_with_len}
use Rattle.std.specs.Option.{unwrap_or}
use Rattle.network.specs.Walk.{Rows, entry}

-- the entry, and 0 where there is none
abbrev pub cell : Rows → ℕ → ℕ → ℤ
cell rows a b = unwrap_or (entry rows a b) (pos 0)

-- row a
abbrev pub row_cells : Rows → ℕ → List ℤ
row_cells rows a = map (λ b. cell rows a b) (range_with_len 0 (length rows))

-- column b
abbrev pub column_cells : Rows → ℕ → List ℤ
column_cells rows b = map (λ a. cell rows a b) (range_with_len 0 (length rows))
