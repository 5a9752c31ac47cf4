-- What a text is cut into: pieces at one byte, words at several.
use Rattle.std.specs.Prelude.{ℕ, ◌==◌, Bool, true, false, List, [], ◌∷◌, nat_le, ◌&&◌, length, drop, ℤ, pos, neg_ℤ, Option, Some, None, if◌then◌else◌}
use Rattle.std.specs.List.{filter, slice_split, list_any, list_all}
use Rattle.std.specs.Char.{is_ascii_digit}
use Rattle.std.specs.Str.Parse.{digits_value, starts_with_minus}
use Rattle.std.specs.Option.{option_map}

-- what stands between the separators, in order, empty pieces too
abbrev pub pieces : ℕ → List ℕ → List (List ℕ)
pieces separator text = slice_split (λ b. b == separator) text

-- whether a byte is one of the separators
abbrev pub is_in : List ℕ → ℕ → Bool
is_in separators b = list_any (λ s. s == b) separators

-- a piece that is not empty
abbrev pub is_word : List ℕ → Bool
is_word [] = false
is_word (b ∷ bs) = true

-- the words of a text: its longest runs of bytes that are no separators, in their order
unfoldable pub words : List ℕ → List ℕ → List (List ℕ)
words separators text = filter is_word (slice_split (is_in separators) text)

-- ---- The numbers that digits spell.

-- 1 to so many digits
abbrev pub is_numeral : ℕ → List ℕ → Bool
is_numeral most word = list_all is_ascii_digit word && nat_le 1 (length word) && nat_le (length word) most

-- the number that 1 to so many digits spell
abbrev pub natural : ℕ → List ℕ → Option ℕ
natural most word = if is_numeral most word then Some (digits_value 10 word) else None

abbrev pub negated : ℕ → ℤ
negated n = neg_ℤ (pos n)

-- the number that a minus or nothing, and then 1 to so many digits, spell
unfoldable pub integer : ℕ → List ℕ → Option ℤ
integer most word =
    if starts_with_minus word
    then option_map negated (natural most (drop 1 word))
    else option_map pos (natural most word)
