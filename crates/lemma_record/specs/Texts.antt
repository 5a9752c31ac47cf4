-- A text that grows, of which a part was taken.
use Rattle.std.specs.Prelude.{ℕ, ◌≡◌, List, [], ◌++◌}

-- what was taken, and the rest
pub record TextOf : Type 0 where
  pub taken : List ℕ
  pub rest : List ℕ

abbrev pub whole : TextOf → List ℕ
whole text = text.taken ++ text.rest

-- the text with these bytes more
abbrev pub more_of : TextOf → List ℕ → TextOf
more_of text bytes = record text { rest = text.rest ++ bytes }

-- the rest goes to whoever had all that was taken before
pub record Passes (old : TextOf) (had piece : List ℕ) (new : TextOf) (has : List ℕ) : Type 0 where
  pub before : had ≡ old.taken
  pub is_rest : piece ≡ old.rest
  pub taken : new.taken ≡ whole old
  pub rest : new.rest ≡ []
  pub now : has ≡ whole old
