-- Which texts spell a project, and the first fault of those that don't.
use Rattle.std.specs.Prelude.{ℕ, List, [], ◌∷◌, ℤ, Option, ◌≡◌, zero, suc, ◌+◌, ◌-◌, ◌<◌, ◌≤◌, ◌==◌, ◌++◌, length, map}
use Rattle.std.specs.Prelude.{pos, Some, None, ◌⊎◌, slice_index_or, codes}
use Rattle.words.specs.Words.{integer}
use Rattle.words.specs.Words as words
use Rattle.sch_reader.specs.declared.reader.TheConstants.{TOKEN_DIGITS}
use Rattle.std.specs.List.{filter, flat_map, join_with_byte}
use Rattle.sch_reader.specs.declared.fault.SchFault.TheVariants as faults
use Rattle.network.specs.declared.parts.Lag.{Lag}
use Rattle.words.specs.declared.TheConstants.{MAX_TEXT_BYTES}
use Rattle.network.specs.Problem.{Problem, IsProject, activities, activity_count, resource_count, duration}
use Rattle.sch_reader.specs.Layout.{Layout, done, place, misfit, project_text, SchFault, Place}
use Rattle.std.specs.Fmt.{decimal, signed_decimal}

-- ---- The words of a project text, and the numbers that its tokens spell.

-- space, tab, CR, LF and the square brackets
abbrev pub blanks : List ℕ
blanks = 32 ∷ 9 ∷ 13 ∷ 10 ∷ 91 ∷ 93 ∷ []

-- the words of a text: its longest runs of bytes that are no blanks, in their order
abbrev pub text_words : List ℕ → List (List ℕ)
text_words text = words.words blanks text

-- the number that a token spells: a minus or nothing, and then 1 to 9 digits
unfoldable pub token : List ℕ → Option ℤ
token word = integer TOKEN_DIGITS word

-- the given arcs from an activity
abbrev pub lags_from : ℕ → List Lag → List Lag
lags_from i lags = filter (λ a. a.from == i) lags

-- the network rows of so many activities, from this one on: the activity, 1, the count of its given
-- arcs, their ends, their lags
abbrev pub network_numbers : ℕ → ℕ → List Lag → List ℤ
network_numbers zero i lags = []
network_numbers (suc rows) i lags =
    pos i ∷ pos 1 ∷ pos (length (lags_from i lags))
    ∷ (map (λ a. pos a.to) (lags_from i lags)
    ++ (map (λ a. a.weight) (lags_from i lags)
    ++ network_numbers rows (i + 1) lags))

-- the request rows, from this activity on: the activity, 1, its duration, its demands
abbrev pub request_numbers : ℕ → List ℤ → List (List ℤ) → List ℤ
request_numbers i [] demands = []
request_numbers i (duration ∷ durations) [] = []
request_numbers i (duration ∷ durations) (row ∷ demands) =
    pos i ∷ pos 1 ∷ duration ∷ (row ++ request_numbers (i + 1) durations demands)

-- the list of whole numbers that spells a project
unfoldable pub flat : Problem → List ℤ
flat p = pos (length p.durations - 2) ∷ pos (length p.capacities) ∷ pos 0 ∷ pos 0
    ∷ (network_numbers (length p.durations) 0 p.lags
    ++ (request_numbers 0 p.durations p.demands
    ++ p.capacities))

-- these words are tokens of these numbers
abbrev pub Spell : List (List ℕ) → List ℤ → Type 0
Spell text numbers = map token text ≡ map Some numbers

-- the text spells the project
pub record Spells (text : List ℕ) (p : Problem) : Type 0 where
  pub size : length text ≤ MAX_TEXT_BYTES
  pub spelled : Spell (text_words text) (flat p)

-- the numbers begin the list of some project
abbrev pub BeginsProject : List ℤ → Type 0
BeginsProject numbers = (p : Problem) × (rest : List ℤ) × IsProject p × (flat p ≡ numbers ++ rest)

-- they are the whole list of one
abbrev pub IsWholeProject : List ℤ → Type 0
IsWholeProject numbers = (p : Problem) × IsProject p × (flat p ≡ numbers)

-- the place that comes after these numbers
abbrev pub place_after : {A : Type 0} → Layout A → List ℤ → Option Place
place_after (done x) numbers = None
place_after (place p next) [] = Some p
place_after (place p next) (z ∷ zs) = place_after (next z) zs

-- The text ends before a project does.
pub record EndsShort (text : List (List ℕ)) (fault : SchFault) : Type 0 where
  pub numbers : List ℤ
  pub spelled : Spell text numbers
  pub begins : BeginsProject numbers
  pub more : ¬ IsWholeProject numbers
  pub fault_is : fault ≡ faults.Short (length text)

-- A word comes after a whole project.
pub record GoesOn (text : List (List ℕ)) (fault : SchFault) : Type 0 where
  pub front : List (List ℕ)
  pub word : List ℕ
  pub rest : List (List ℕ)
  pub numbers : List ℤ
  pub parts : text ≡ front ++ (word ∷ rest)
  pub spelled : Spell front numbers
  pub whole : IsWholeProject numbers
  pub fault_is : fault ≡ faults.Trailing (length front)

-- a word that is no token
abbrev pub misfit_of : Place → ℕ → Option ℤ → SchFault
misfit_of p index None = faults.Token index
misfit_of p index (Some z) = misfit p index z

-- The words before this one begin a project, and with it they don't: the fault is that of its place.
pub record HasMisfit (text : List (List ℕ)) (fault : SchFault) : Type 0 where
  pub front : List (List ℕ)
  pub word : List ℕ
  pub rest : List (List ℕ)
  pub numbers : List ℤ
  pub here : Place
  pub parts : text ≡ front ++ (word ∷ rest)
  pub spelled : Spell front numbers
  pub begins : BeginsProject numbers
  pub ends : (z : ℤ) → token word ≡ Some z → ¬ BeginsProject (numbers ++ z ∷ [])
  pub here_is : place_after project_text numbers ≡ Some here
  pub fault_is : fault ≡ misfit_of here (length front) (token word)

-- The text has too many bytes.
pub record IsTooLong (text : List ℕ) (fault : SchFault) : Type 0 where
  pub long : MAX_TEXT_BYTES < length text
  pub fault_is : fault ≡ faults.TooLong

-- the first fault of words that spell no project
abbrev pub IsFirstWordFault : List (List ℕ) → SchFault → Type 0
IsFirstWordFault text fault = EndsShort text fault ⊎ (GoesOn text fault ⊎ HasMisfit text fault)

-- the first fault of a text that spells no project
abbrev pub IsFirstFault : List ℕ → SchFault → Type 0
IsFirstFault text fault =
    IsTooLong text fault ⊎ ((length text ≤ MAX_TEXT_BYTES) × IsFirstWordFault (text_words text) fault)

-- ---- The canonical text of a project.

-- a row is one line: its words separated by one tab, and LF
abbrev pub line : List (List ℕ) → List ℕ
line row = join_with_byte 9 row ++ codes "\n"

-- a word after another
abbrev pub tabbed : List ℕ → List ℕ
tabbed word = codes "\t" ++ word

-- a lag stands in brackets
abbrev pub bracketed : ℤ → List ℕ
bracketed weight = codes "[" ++ (signed_decimal weight ++ codes "]")

-- the header: the number of activities, of resources, and no resources of other kinds
abbrev pub header_row : Problem → List (List ℕ)
header_row p = decimal (activity_count p - 2) ∷ decimal (resource_count p) ∷ codes "0" ∷ codes "0" ∷ []

-- a network row: the activity, one mode, how many given arcs lead from it, their ends, their lags
abbrev pub arcs_row : ℕ → List Lag → List (List ℕ)
arcs_row i lags =
    decimal i ∷ codes "1" ∷ decimal (length lags)
    ∷ (map (λ a. decimal a.to) lags ++ map (λ a. bracketed a.weight) lags)

abbrev pub network_row : Problem → ℕ → List (List ℕ)
network_row p i = arcs_row i (lags_from i p.lags)

-- a request row: the activity, its mode, its duration, its demands
abbrev pub amounts_row : ℕ → ℤ → List ℤ → List (List ℕ)
amounts_row i time demands = decimal i ∷ codes "1" ∷ signed_decimal time ∷ map signed_decimal demands

abbrev pub request_row : Problem → ℕ → List (List ℕ)
request_row p i = amounts_row i (duration p i) (slice_index_or p.demands i [])

-- the capacities are one row, where there are any
abbrev pub capacity_rows : List ℤ → List (List (List ℕ))
capacity_rows [] = []
capacity_rows (capacity ∷ others) = map signed_decimal (capacity ∷ others) ∷ []

-- the rows of a project
abbrev pub rows : Problem → List (List (List ℕ))
rows p =
    header_row p
    ∷ (map (network_row p) (activities p)
    ++ (map (request_row p) (activities p)
    ++ capacity_rows p.capacities))

-- the canonical text of a project
unfoldable pub canonical_text : Problem → List ℕ
canonical_text p = flat_map line (rows p)
