-- The text of starts, line by line: which texts give each activity a start, and the first fault of
-- those that don't.
use Rattle.std.specs.Prelude.{◌≡◌, ◌≤◌, ◌<◌, ℕ, ◌+◌, nat_lt, ◌==◌, Bool, ◌||◌, List, [], ◌∷◌, ◌++◌, length, drop, map}
use Rattle.std.specs.Prelude.{ℤ, pos, Option, Some, None, is_some, codes, if◌then◌else◌, nat_eq, position, unwrap_or}
use Rattle.std.specs.Prelude.{is_none, slice_index_or, slice_set}
use Rattle.std.specs.List.{All, count_by, starts_with, range_with_len}
use Rattle.std.specs.Option.{option_map}
use Rattle.std.specs.Str.Lines.{lines}
use Rattle.words.specs.declared.TheConstants.{MAX_TEXT_BYTES}
use Rattle.words.specs.Words.{words, natural, integer}
use Rattle.schedule_check.specs.declared.entry.TheConstants.{ACTIVITY_DIGITS, START_DIGITS}
pub use Rattle.schedule_check.specs.declared.entry.Entry.{Entry}
use Rattle.schedule_check.specs.declared.entry.Entry.TheVariants.{Nothing, Gives, Wrong}
pub use Rattle.schedule_check.specs.declared.fault.StartsFault.{StartsFault}
use Rattle.schedule_check.specs.declared.fault.StartsFault.TheVariants as faults

-- ---- what a line says

-- space and tab
abbrev pub spaces : List ℕ
spaces = 32 ∷ 9 ∷ []

abbrev pub given : Option ℕ → Option ℤ → Entry
given (Some activity) (Some start) = Gives activity start
given (Some activity) None = Wrong
given None start = Wrong

-- nothing without words, and else an activity of 1 to 4 digits and a start of a minus or nothing and
-- 1 to 10 digits
unfoldable pub entry_of : List (List ℕ) → Entry
entry_of [] = Nothing
entry_of (activity ∷ []) = Wrong
entry_of (activity ∷ start ∷ []) = given (natural ACTIVITY_DIGITS activity) (integer START_DIGITS start)
entry_of (activity ∷ start ∷ more ∷ others) = Wrong

abbrev pub line_entries : List (List ℕ) → List Entry
line_entries lines = map (λ line. entry_of (words spaces line)) lines

-- an answer of the program, whose first line is passed over
abbrev pub is_answer : List ℕ → Bool
is_answer text =
    starts_with nat_eq text (codes "optimal ")
    || starts_with nat_eq text (codes "feasible ")
    || starts_with nat_eq text (codes "earliest ")

-- what the lines of a text say, the first line first
abbrev pub entries : List ℕ → List Entry
entries text = if is_answer text then Nothing ∷ line_entries (drop 1 (lines text)) else line_entries (lines text)

-- ---- what the lines say together

-- the start that an entry gives the activity
abbrev pub start_in : ℕ → Entry → Option ℤ
start_in activity Nothing = None
start_in activity Wrong = None
start_in activity (Gives named start) = if named == activity then Some start else None

-- the start that the first of the entries gives the activity
abbrev pub start_given : List Entry → ℕ → Option ℤ
start_given [] activity = None
start_given (e ∷ es) activity = if is_some (start_in activity e) then start_in activity e else start_given es activity

-- the starts that the entries give so many activities
abbrev pub starts_given : ℕ → List Entry → List (Option ℤ)
starts_given activities es = map (start_given es) (range_with_len 0 activities)

-- ---- faults

-- the first of two faults
abbrev pub or_else : Option StartsFault → Option StartsFault → Option StartsFault
or_else None second = second
or_else (Some fault) second = Some fault

-- the fault of an entry at a line, after these entries
abbrev pub entry_fault : ℕ → List Entry → ℕ → Entry → Option StartsFault
entry_fault activities before line Nothing = None
entry_fault activities before line Wrong = Some (faults.Token line)
entry_fault activities before line (Gives activity start) =
    if nat_lt activity activities
    then (if is_some (start_given before activity) then Some (faults.Repeated line) else None)
    else Some (faults.Activity line)

-- the first fault of entries from a line on, after these entries
abbrev pub line_fault : ℕ → List Entry → ℕ → List Entry → Option StartsFault
line_fault activities before line [] = None
line_fault activities before line (e ∷ es) =
    or_else (entry_fault activities before line e) (line_fault activities (before ++ e ∷ []) (line + 1) es)

-- the least activity without a start
abbrev pub missing_fault : List (Option ℤ) → Option StartsFault
missing_fault starts = option_map faults.Missing (position is_none starts)

-- the first fault of a text: its length, then its lines in order, then the activities
abbrev pub starts_fault : ℕ → List ℕ → Option StartsFault
starts_fault activities text =
    if nat_lt MAX_TEXT_BYTES (length text)
    then Some faults.TooLong
    else or_else (line_fault activities [] 1 (entries text)) (missing_fault (starts_given activities (entries text)))

-- the start that a text gives each activity, in order
abbrev pub starts_of : ℕ → List ℕ → List ℤ
starts_of activities text = map (λ start. unwrap_or start (pos 0)) (starts_given activities (entries text))

-- ---- the texts that have no fault

-- an entry that is nothing, or gives one of so many activities a start
abbrev pub GivesStartOf : ℕ → Entry → Type 0
GivesStartOf activities Nothing = Unit {0}
GivesStartOf activities Wrong = ⊥
GivesStartOf activities (Gives activity start) = activity < activities

-- whether an entry gives the activity a start
abbrev pub gives : ℕ → Entry → Bool
gives activity e = is_some (start_in activity e)

-- a text within the limit whose lines are all right, with just one for each activity
pub record IsStartsText (activities : ℕ) (text : List ℕ) : Type 0 where
  pub short : length text ≤ MAX_TEXT_BYTES
  pub right : All (GivesStartOf activities) (entries text)
  pub once : (activity : ℕ) → activity < activities → count_by (gives activity) (entries text) ≡ 1

-- ---- The table of starts, which has a place for each activity, as lines are put into it.

-- the fault of an entry at a line, after those that the table has
abbrev pub table_fault : List (Option ℤ) → ℕ → Entry → Option StartsFault
table_fault found line Nothing = None
table_fault found line Wrong = Some (faults.Token line)
table_fault found line (Gives activity start) =
    if nat_lt activity (length found)
    then (if is_some (slice_index_or found activity None) then Some (faults.Repeated line) else None)
    else Some (faults.Activity line)

-- the table with one more entry
abbrev pub with_entry : List (Option ℤ) → Entry → List (Option ℤ)
with_entry found Nothing = found
with_entry found Wrong = found
with_entry found (Gives activity start) = slice_set found activity (Some start)

-- the first fault of entries from a line on, after those that the table has
abbrev pub first_fault : List (Option ℤ) → ℕ → List Entry → Option StartsFault
first_fault found line [] = None
first_fault found line (e ∷ es) = or_else (table_fault found line e) (first_fault (with_entry found e) (line + 1) es)

-- the table with more entries
abbrev pub with_entries : List (Option ℤ) → List Entry → List (Option ℤ)
with_entries found [] = found
with_entries found (e ∷ es) = with_entries (with_entry found e) es

-- the lines of a rest of a text, numbered from this one on, say what the whole text says
pub record SaysTheSame (text rest : List ℕ) (first : ℕ) : Type 0 where
  pub fault : (found : List (Option ℤ)) →
      first_fault found 1 (entries text) ≡ first_fault found first (line_entries (lines rest))
  pub table : (found : List (Option ℤ)) →
      with_entries found (entries text) ≡ with_entries found (line_entries (lines rest))
