-- Parts of rows that were saved before they gained, and the way back.
use Rattle.std.specs.Prelude.{◌≡◌, ◌<◌, ◌≤◌, ◌+◌, ℕ, ℤ, Bool, List, [], ◌∷◌, ◌++◌, length, take, drop, slice_index_or, slice_set, map}
use Rattle.std.specs.List.{All}
use Rattle.std.specs.Bool.{MatchBool}
use Rattle.network.specs.declared.parts.Lag.{Lag}
use Rattle.longest_path.specs.Matrix.{written_at, IsMatrix}
use Rattle.longest_path.specs.Insert.{IsReady}
pub use Rattle.longest_path.specs.declared.saves.Part.{Part}
use Rattle.network.specs.Walk.{Rows}

-- cells that a row had from some column on
pub record SavedPart : Type 0 where
  pub row : ℕ
  pub from : ℕ
  pub cells : List ℤ

-- parts of the rows of a square of this width, the first saved first
pub record SavedParts : Type 0 where
  pub width : ℕ
  pub saves : List SavedPart

-- the saved parts, whose cells stand one after another
abbrev pub saves_of : List Part → List ℤ → List SavedPart
saves_of [] cells = []
saves_of (part ∷ others) cells =
    record { row = part.row; from = part.from; cells = take part.count cells } ∷ saves_of others (drop part.count cells)

-- how many cells parts have
abbrev pub cell_count : List Part → ℕ
cell_count [] = 0
cell_count (part ∷ others) = part.count + cell_count others

-- a part of a row of a square
pub record IsPart (width : ℕ) (part : Part) : Type 0 where
  pub low : part.row < width
  pub inside : part.from + part.count ≤ width

-- each part is one of a row of a square, and all their cells are there
pub record AreSaved (width : ℕ) (parts : List Part) (cells : List ℤ) : Type 0 where
  pub whole : length cells ≡ cell_count parts
  pub inside : All (IsPart width) parts

-- the rows with a saved part put back
abbrev pub put_back : SavedPart → Rows → Rows
put_back save rows = slice_set rows save.row (written_at save.from save.cells (slice_index_or rows save.row []))

-- the part that was saved last is put back, and is saved no more
abbrev pub PutsLastBack : List SavedPart → List SavedPart → Rows → Rows → Type 0
PutsLastBack old_saves saves old rows =
    (save : SavedPart) × (old_saves ≡ saves ++ save ∷ []) × (rows ≡ put_back save old)

-- the rows with all saved parts put back, the last saved first
abbrev pub undone : List SavedPart → Rows → Rows
undone [] rows = rows
undone (save ∷ saves) rows = put_back save (undone saves rows)

-- all rows may take the way over the arc, with a workspace for a row, and parts of them may be saved
pub record MayGoOver (e : Lag) (rows : Rows) (via : List ℤ) (saved : SavedParts) : Type 0 where
  pub ready : IsReady e rows
  pub wide : length via ≡ length rows
  pub width : saved.width ≡ length rows

-- what was saved in between leads back to the old rows
pub record LeadsBack (old_saves saves : List SavedPart) (old rows : Rows) : Type 0 where
  pub more : List SavedPart
  pub added : saves ≡ old_saves ++ more
  pub back : undone more rows ≡ old

-- what was saved in between leads back to the old rows where it is kept, and else nothing was saved
abbrev pub LeadsBackIfKept : Bool → SavedParts → SavedParts → Rows → Rows → Type 0
LeadsBackIfKept keeps old_saved saved old rows = MatchBool keeps (LeadsBack old_saved.saves saved.saves old rows) (saved ≡ old_saved)

-- ---- A matrix that goes back to its marks.

-- the rows now, and those that each mark goes back to, the last mark first
pub record Marked : Type 0 where
  pub rows : Rows
  pub marks : List Rows

-- the rows that each mark goes back to, by how many parts of rows were saved when it was made
abbrev pub marked_rows : List SavedPart → Rows → List ℕ → List Rows
marked_rows saves rows counts = map (λ count. undone (drop count saves) rows) counts

-- no mark was made with more saved parts than a later one, nor with more than there are
abbrev pub AreNested : ℕ → List ℕ → Type 0
AreNested most [] = Unit {0}
AreNested most (count ∷ counts) = (count ≤ most) × AreNested count counts

-- the rows now and those of each mark are matrices
pub record IsMarked (rows : Rows) (saved : SavedParts) (counts : List ℕ) : Type 0 where
  pub matrix : IsMatrix rows
  pub width : saved.width ≡ length rows
  pub nested : AreNested (length saved.saves) counts
  pub matrices : All IsMatrix (marked_rows saved.saves rows counts)
