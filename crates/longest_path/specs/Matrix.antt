-- A matrix of greatest weights: its rows and cells, and the recurrence that makes it.
use Rattle.std.specs.Prelude.{◌≡◌, ◌≤◌, ℕ, ℤ, List, length, Some, pos, neg_ℤ, ◌<ℤ◌, ◌+ℤ◌, ◌≤ℤ◌, int_lt, Option, None}
use Rattle.std.specs.Prelude.{if◌then◌else◌, ◌≢◌, ◌<◌, ◌+◌, ◌*◌, negsuc, ◌++◌, map, take, drop, replicate}
use Rattle.std.specs.Prelude.{slice_index_or, ◌⊎◌}
use Rattle.network.specs.declared.parts.Lag.{Lag}
use Rattle.network.specs.Walk.{entry, AreLight, IsMatrixOf, Rows}
use Rattle.network.specs.declared.limits.TheConstants.{MAX_ACTIVITIES, MAX_WALK_WEIGHT}
use Rattle.network.specs.Problem.{IsWithin}
use Rattle.std.specs.List.{All, range_with_len, Contains}
use Rattle.longest_path.specs.declared.grid.TheConstants.{MAX_WAY_WEIGHT}

-- ---- What a matrix keeps.

-- every entry that is there is at most m away from 0
abbrev pub HasEntriesWithin : ℤ → Rows → Type 0
HasEntriesWithin m rows = (a b : ℕ) (w : ℤ) → entry rows a b ≡ Some w → IsWithin m w

-- the entry is there, and is at least w
abbrev pub Reaches : ℤ → Option ℤ → Type 0
Reaches w o = (x : ℤ) × (o ≡ Some x) × (w ≤ℤ x)

-- every entry is there, and none is below what a walk may weigh
abbrev pub IsFull : Rows → Type 0
IsFull rows = (a b : ℕ) → a < length rows → b < length rows → Reaches (neg_ℤ MAX_WALK_WEIGHT) (entry rows a b)

-- the matrix of some arcs, which are within the limits of lags, or by which every activity reaches every other
pub record IsMatrix (rows : Rows) : Type 0 where
  pub arcs : List Lag
  pub light : AreLight arcs ⊎ IsFull rows
  pub few : length rows ≤ MAX_ACTIVITIES
  pub matrix : IsMatrixOf (length rows) arcs rows
  pub within : HasEntriesWithin MAX_WALK_WEIGHT rows

-- a matrix, and a workspace for one row
pub record IsMatrixWithWorkspace (rows : Rows) (cells : List ℤ) : Type 0 where
  pub matrix : IsMatrix rows
  pub wide : length cells ≡ length rows

-- ---- One step of the recurrence on a single entry (Floyd 1962, Warshall 1962).

-- the weight of one walk after another, where both are there
abbrev pub joined : Option ℤ → Option ℤ → Option ℤ
joined None y = None
joined (Some x) None = None
joined (Some x) (Some y) = Some (x +ℤ y)

-- the greater of two weights, where a walk that isn't there is below any that is
abbrev pub greater : Option ℤ → Option ℤ → Option ℤ
greater x None = x
greater None (Some y) = Some y
greater (Some x) (Some y) = Some (if int_lt x y then y else x)

-- the entry is there, and is above 0
abbrev pub IfSomeAbove : Option ℤ → Type 0
IfSomeAbove o = (w : ℤ) × (o ≡ Some w) × (pos 0 <ℤ w)

-- ---- A square of entries as a list of rows.

-- n rows of n entries
pub record IsSquare (n : ℕ) (rows : Rows) : Type 0 where
  pub rows_long : length rows ≡ n
  pub columns_long : All (λ row. length row ≡ n) rows

-- walks of no arc alone
pub record IsWithoutArcs (n : ℕ) (rows : Rows) : Type 0 where
  pub square : IsSquare n rows
  pub stays : (a : ℕ) → a < n → entry rows a a ≡ Some (pos 0)
  pub apart : (a b : ℕ) → a ≢ b → entry rows a b ≡ None

-- the entry of the arc's ends is the arc's weight, where that is greater, and no other entry changes
pub record IsRaised (arc : Lag) (old new : Rows) : Type 0 where
  pub at : entry new arc.from arc.to ≡ greater (entry old arc.from arc.to) (Some arc.weight)
  pub others : (a b : ℕ) → ((arc.from ≡ a) → (arc.to ≡ b) → ⊥) → entry new a b ≡ entry old a b

-- ---- The cells that hold the entries, row after row.

-- the cell of an entry that isn't there, the least of all cells
abbrev pub nothing : ℤ
nothing = negsuc 2147483647

-- what a cell says
abbrev pub weight_of : ℤ → Option ℤ
weight_of z = if int_lt nothing z then Some z else None

-- what the cell at a place of a row says
abbrev pub weight_at : List ℤ → ℕ → Option ℤ
weight_at cells b = weight_of (slice_index_or cells b nothing)

-- the cells of a row that has nothing before some column, and these cells from there on
abbrev pub placed_at : ℕ → List ℤ → List ℤ
placed_at from cells = replicate from nothing ++ cells

-- a row with what these cells say in place of its entries, from some column on
abbrev pub written_at : ℕ → List ℤ → List (Option ℤ) → List (Option ℤ)
written_at from cells row = take from row ++ (map weight_of cells ++ drop (from + length cells) row)

-- the cells with these in place of those from some place on
abbrev pub replaced_at : ℕ → List ℤ → List ℤ → List ℤ
replaced_at place part cells = take place cells ++ (part ++ drop (place + length part) cells)

-- row a of the rows of n cells each that stand one after another
abbrev pub row_of : ℕ → List ℤ → ℕ → List (Option ℤ)
row_of n cells a = map (λ b. weight_at cells (a * n + b)) (range_with_len 0 n)

-- the rows of n cells each that stand one after another
abbrev pub rows_of : ℕ → List ℤ → Rows
rows_of n cells = map (row_of n cells) (range_with_len 0 n)

-- the cells are those of n rows, which are few
pub record IsGrid (n : ℕ) (cells : List ℤ) : Type 0 where
  pub whole : length cells ≡ n * n
  pub few : n ≤ MAX_ACTIVITIES

-- an entry, or the way of a walk of weight first and then the last one, where that is greater
abbrev pub relaxed_by : ℤ → Option ℤ → Option ℤ → Option ℤ
relaxed_by first last old = greater old (joined (Some first) last)

-- row a takes the way that begins with a walk of weight first and goes on by via, where that is
-- greater, and no other row changes
pub record IsRelaxed (a : ℕ) (first : ℤ) (via : List ℤ) (old new : Rows) : Type 0 where
  pub at : (b : ℕ) → entry new a b ≡ relaxed_by first (weight_at via b) (entry old a b)
  pub others : (x b : ℕ) → x ≢ a → entry new x b ≡ entry old x b

-- the cells are those of row a
pub record IsRow (a : ℕ) (rows : Rows) (cells : List ℤ) : Type 0 where
  pub long : length cells ≡ length rows
  pub says : (b : ℕ) → weight_at cells b ≡ entry rows a b

-- the sum of first and any weight that a cell of via has is far from the ends of i32
abbrev pub HasSmallSums : ℤ → List ℤ → Type 0
HasSmallSums first via = (k : ℕ) (y : ℤ) → weight_at via k ≡ Some y → IsWithin MAX_WAY_WEIGHT (first +ℤ y)

-- the way that begins with a walk of weight first and goes on by via is at most what the row says
abbrev pub GainsNothingAt : ℤ → List ℤ → List ℤ → ℕ → Type 0
GainsNothingAt first via row b = (y : ℤ) → weight_at via b ≡ Some y → Reaches (first +ℤ y) (weight_at row b)

-- one row of cells is relaxed, and the cells before and after it are as they were
pub record IsRowRelaxed (n a : ℕ) (first : ℤ) (via old new : List ℤ) : Type 0 where
  pub inside : (k : ℕ) → k < n →
      weight_at new (a * n + k) ≡ relaxed_by first (weight_at via k) (weight_at old (a * n + k))
  pub before : (k : ℕ) → k < a * n → slice_index_or new k nothing ≡ slice_index_or old k nothing
  pub after : (k : ℕ) → a * n + n ≤ k → slice_index_or new k nothing ≡ slice_index_or old k nothing

-- ---- What the passes of the recurrence make of the rows.

-- the greatest weights of the walks of at most one arc
pub record IsSpanned (n : ℕ) (arcs : List Lag) (rows : Rows) : Type 0 where
  pub square : IsSquare n rows
  pub stays : (a : ℕ) → a < n → Reaches (pos 0) (entry rows a a)
  pub spans : (e : Lag) → Contains arcs e → Reaches e.weight (entry rows e.from e.to)
  pub single : (a b : ℕ) (w : ℤ) → entry rows a b ≡ Some w →
      ((a ≡ b) × (w ≡ pos 0)) ⊎ ((e : Lag) × Contains arcs e × (e.from ≡ a) × (e.to ≡ b) × (e.weight ≡ w))

-- row a takes the way that begins with a walk of weight first, if there is one, and goes on by via,
-- where that is greater, and no other row changes
pub record IsRowOver (a : ℕ) (first : Option ℤ) (via : List ℤ) (old new : Rows) : Type 0 where
  pub at : (b : ℕ) → entry new a b ≡ greater (entry old a b) (joined first (weight_at via b))
  pub others : (x b : ℕ) → x ≢ a → entry new x b ≡ entry old x b

-- each new entry is the old one, or the way through m where that is greater
abbrev pub IsThrough : ℕ → Rows → Rows → Type 0
IsThrough m old new = (a b : ℕ) → entry new a b ≡ greater (entry old a b) (joined (entry old a m) (entry old m b))
