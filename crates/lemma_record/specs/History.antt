-- A history of pieces: its rule, and what a step tells.
use Rattle.std.specs.Prelude.{ℕ, ◌≡◌, ◌==◌, true, List, [], ◌∷◌, ◌++◌, length, MatchBool, Vec}
use Rattle.std.specs.List.{flat_map}
use Rattle.std.specs.declared.alloc.Global.{Global}
use Rattle.logbook.specs.Pages.{Cell, Step, View, Book, Named}

abbrev pub Piece : Type 0
Piece = Vec ℕ Global

-- the text that pieces make
abbrev pub joined : List Piece → List ℕ
joined pieces = flat_map (λ piece. piece.items) pieces

-- the first word is the length of the history. A history has two words, of which this one leaves the second at 0
pub record IsKept (cells : List Cell) (log : List Piece) : Type 0 where
  pub words : cells ≡ (length log, true) ∷ (0, true) ∷ []

abbrev pub head_of : Book → Named
head_of b = record { tracked = true; key = 0; book = b }

-- the piece was added to all that had been seen; or the history was longer
abbrev pub Adds : Step Piece → View Piece ℕ → ℕ → View Piece ℕ → Type 0
Adds s v found w = MatchBool (found == s.old) (w.0 ≡ v.0 ++ s.ask ∷ []) (length w.0 ≡ found)
