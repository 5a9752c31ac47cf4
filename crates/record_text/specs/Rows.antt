-- The first fault of a text whose rows are to be those of a whole, whatever a whole is.
use Rattle.std.specs.Prelude.{◌≡◌, ◌≢◌, ℕ, ◌+◌, List, [], ◌∷◌, ◌++◌, length}
use Rattle.words.specs.Words.{pieces}

-- what stands between the LFs of a text: its rows, and last what follows its last LF
abbrev pub line_pieces : List ℕ → List (List ℕ)
line_pieces text = pieces 10 text

-- what can be wrong with a part of a text: it is no row that may come there, none comes, or one too many
pub data RowFault : Type 0 where
  form : RowFault
  short : RowFault
  trailing : RowFault

-- some whole has these rows first
abbrev pub Begin : (List (List ℕ) → Type 0) → List (List ℕ) → Type 0
Begin IsWhole rows = (rest : List (List ℕ)) × IsWhole (rows ++ rest)

-- a part after rows that begin a whole does not go on with one: only the last part has no LF
abbrev pub IsBroken : (List (List ℕ) → Type 0) → List (List ℕ) → List ℕ → List (List ℕ) → Type 0
IsBroken IsWhole front here [] = here ≢ []
IsBroken IsWhole front here (next ∷ back) = ¬ Begin IsWhole (front ++ here ∷ [])

-- what is wrong with a part after rows that begin a whole
abbrev pub IsWrong : (List (List ℕ) → Type 0) → List (List ℕ) → List ℕ → List (List ℕ) → RowFault → Type 0
IsWrong IsWhole front here back form = ¬ IsWhole front × IsBroken IsWhole front here back
IsWrong IsWhole front here back short = ¬ IsWhole front × (here ≡ []) × (back ≡ [])
IsWrong IsWhole front here back trailing = IsWhole front × ¬ ((here ≡ []) × (back ≡ []))

-- the rows before this line begin a whole, and that line is wrong so
pub record HasRowFault
    (IsWhole : List (List ℕ) → Type 0) (all : List (List ℕ)) (line : ℕ) (what : RowFault) : Type 0 where
  pub front : List (List ℕ)
  pub here : List ℕ
  pub back : List (List ℕ)
  pub placed : all ≡ front ++ here ∷ back
  pub begins : Begin IsWhole front
  pub at : line ≡ length front + 1
  pub wrong : IsWrong IsWhole front here back what

-- the fault where a row must come and none ends
abbrev pub missing : List ℕ → RowFault
missing [] = short
missing (b ∷ bs) = form

-- no whole's rows go on from another's
abbrev pub IsNeverLonger : (List (List ℕ) → Type 0) → Type 0
IsNeverLonger IsWhole = (rows more : List (List ℕ)) → IsWhole rows → IsWhole (rows ++ more) → more ≡ []
