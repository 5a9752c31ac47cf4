-- What a row says, field by field.
use Rattle.std.specs.Prelude.{ℕ, ℤ, pos, map, ◌==◌, ◌&&◌, if◌then◌else◌, Bool, Option, Some, None, List, [], ◌∷◌, codes, nat_lt, length}
use Rattle.std.specs.List.{slice_index}
use Rattle.std.specs.Str.{bytes_eq}
use Rattle.words.specs.Words.{pieces, natural}
use Rattle.record_text.specs.declared.fields.TheConstants.{MAX_NUMBER_DIGITS}
use Rattle.record_text.specs.Kinds.{Rules}
use Rattle.record_text.specs.Text.{row_of}
use Rattle.record_text.specs.Tree.{Line, still_due}
use Rattle.record_text.specs.declared.line.Line.TheVariants as kind

-- ---- numbers

-- several digits of which the first is 0
abbrev pub has_leading_zero : List ℕ → Bool
has_leading_zero word = nat_lt 1 (length word) && slice_index word 0 == 48

-- the number that 1 to 10 digits without a leading zero spell
unfoldable pub number : List ℕ → Option ℕ
number word = if has_leading_zero word then None else natural MAX_NUMBER_DIGITS word

abbrev pub with_number : Option ℕ → Option (List ℕ) → Option (List ℕ)
with_number (Some n) (Some ns) = Some (n ∷ ns)
with_number a b = None

-- the numbers that the fields spell, where each spells one
abbrev pub numbers : List (List ℕ) → Option (List ℕ)
numbers [] = Some []
numbers (field ∷ fields) = with_number (number field) (numbers fields)

-- ---- a row as a word and the numbers after it

pub record Parts : Type 0 where
  pub word : List ℕ
  pub numbers : List ℕ

abbrev pub with_word : List ℕ → Option (List ℕ) → Option Parts
with_word word (Some ns) = Some (record { word = word; numbers = ns })
with_word word None = None

abbrev pub parts_of : List (List ℕ) → Option Parts
parts_of [] = None
parts_of (word ∷ fields) = with_word word (numbers fields)

-- what stands between the spaces of a row
abbrev pub fields : List ℕ → List (List ℕ)
fields row = pieces 32 row

abbrev pub fields_left : Option (List ℕ) → List (List ℕ)
fields_left (Some rest) = fields rest
fields_left None = []

-- ---- a line of the tree

abbrev pub leaf : Line → List ℕ → Option Line
leaf line [] = Some line
leaf line (n ∷ ns) = None

abbrev pub force_of : List ℕ → Option Line
force_of (i ∷ j ∷ []) = Some (kind.Force (record { before = i; after = j }))
force_of ns = None

abbrev pub split_of : List ℕ → Option Line
split_of (resource ∷ i ∷ members) = Some (kind.Split resource (i ∷ members))
split_of ns = None

-- the line of a word and the numbers after it
abbrev pub line_from : List ℕ → List ℕ → Option Line
line_from word ns =
    if bytes_eq word (codes "force") then force_of ns
    else if bytes_eq word (codes "split") then split_of ns
    else if bytes_eq word (codes "solved") then leaf kind.Solved ns
    else if bytes_eq word (codes "cut") then leaf kind.Cut ns
    else if bytes_eq word (codes "dead") then leaf kind.Dead ns
    else None

abbrev pub line_in : Option Parts → Option Line
line_in (Some parts) = line_from parts.word parts.numbers
line_in None = None

abbrev pub line_of : List ℕ → Option Line
line_of row = line_in (parts_of (fields row))

abbrev pub search_rules : Rules row_of
search_rules = record { read = λ due row. line_of row; next = still_due; last = kind.Dead }

-- ---- a claim

-- the numbers after this word
abbrev pub numbers_in : List ℕ → Option Parts → Option (List ℕ)
numbers_in word (Some parts) = if bytes_eq parts.word word then Some parts.numbers else None
numbers_in word None = None

abbrev pub numbers_after : List ℕ → List ℕ → Option (List ℕ)
numbers_after word row = numbers_in word (parts_of (fields row))

abbrev pub only_time : Option (List ℕ) → Option ℤ
only_time (Some (n ∷ [])) = Some (pos n)
only_time ns = None

abbrev pub makespan_in : List ℕ → Option ℤ
makespan_in row = only_time (numbers_after (codes "optimal") row)

abbrev pub some_times : Option (List ℕ) → Option (List ℤ)
some_times (Some (n ∷ ns)) = Some (map pos (n ∷ ns))
some_times ns = None

abbrev pub starts_in : List ℕ → Option (List ℤ)
starts_in row = some_times (numbers_after (codes "starts") row)
