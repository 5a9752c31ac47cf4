-- What the text of a record is, whatever its kind.
use Rattle.std.specs.Prelude.{◌≡◌, ℕ, ◌+◌, ◌*◌, ◌<◌, ◌≤◌, Option, Some, List, [], ◌∷◌, ◌++◌, map, length, not, true, ◌==◌, refl}
use Rattle.std.specs.List.{flat_map, list_all, AllByRecursion}
use Rattle.std.specs.Coded.{Coded, code_by, coded×, coded_list}
use Rattle.network.specs.declared.verdict.Verdict.{Verdict}
pub use Rattle.record_text.specs.declared.TheConstants.{MAX_RECORD_BYTES}

-- what a record says: a claim, and the lines that show it
pub record RecordOf (Claim Line : Type 0) : Type 0 where
  pub claim : Claim
  pub lines : List Line

-- a record is stored as a pair
abbrev pub record_code : {Claim Line : Type 0} → Coded Claim → Coded Line → Coded (RecordOf Claim Line)
record_code {Claim} {Line} claim line =
    code_by (Claim × List Line) (coded× claim (coded_list line)) (λ r. (r.claim, r.lines)) (λ p. record { claim = p.0; lines = p.1 }) (λ _. refl)

-- a kind of record: its first row, the rows of a claim, what it says of a project apart from the starts, the row of a
-- line, the claims and the lines that a text can hold, and the lists of lines that are whole
pub record Kind (Claim Line : Type 0) : Type 1 where
  pub title : List ℕ
  pub claim_rows : Claim → List (List ℕ)
  pub says : Claim → Verdict
  pub row_of : Line → List ℕ
  pub IsClaim : Claim → Type 0
  pub IsLine : Line → Type 0
  pub AreWhole : List Line → Type 0

-- the rows before those of the lines
abbrev pub head_rows : {Claim Line : Type 0} → Kind Claim Line → Claim → List (List ℕ)
head_rows k claim = k.title ∷ k.claim_rows claim

-- the number of the first row of the lines
abbrev pub first_line : {Claim Line : Type 0} → Kind Claim Line → Claim → ℕ
first_line k claim = length (head_rows k claim) + 1

-- a record's rows: its lines without their LFs
abbrev pub rows_of : {Claim Line : Type 0} → Kind Claim Line → RecordOf Claim Line → List (List ℕ)
rows_of k r = head_rows k r.claim ++ map k.row_of r.lines

-- a row with its LF
abbrev pub ended : List ℕ → List ℕ
ended row = row ++ 10 ∷ []

-- the one text of a record
abbrev pub record_text : {Claim Line : Type 0} → Kind Claim Line → RecordOf Claim Line → List ℕ
record_text k r = flat_map ended (rows_of k r)

-- a claim and whole lines, all of which a text can hold
pub record IsRecord {Claim Line : Type 0} (k : Kind Claim Line) (r : RecordOf Claim Line) : Type 0 where
  pub claim : k.IsClaim r.claim
  pub lines : AllByRecursion k.IsLine r.lines
  pub whole : k.AreWhole r.lines

-- the text is that of a record
pub record Spells {Claim Line : Type 0} (k : Kind Claim Line) (text : List ℕ) (r : RecordOf Claim Line) : Type 0 where
  pub of_record : IsRecord k r
  pub size : length text ≤ MAX_RECORD_BYTES
  pub spelled : text ≡ record_text k r

-- the rows are those of a whole record
abbrev pub AreRows : {Claim Line : Type 0} → Kind Claim Line → List (List ℕ) → Type 0
AreRows {Claim} {Line} k rows = (r : RecordOf Claim Line) × IsRecord k r × (rows_of k r ≡ rows)

-- ---- How the rows of lines are read one after another, until nothing is due.

-- which line a row is where so much is due, how much is due after a line, and the shortest line that takes one of that
pub record Rules {Line : Type 0} (row_of : Line → List ℕ) : Type 0 where
  pub read : ℕ → List ℕ → Option Line
  pub next : ℕ → Line → ℕ
  pub last : Line

pub record RulesHold {Line : Type 0} {row_of : Line → List ℕ} (m : Rules row_of) : Type 0 where
  pub reads_last : (due : ℕ) → 0 < due → m.read due (row_of m.last) ≡ Some m.last
  pub next_last : (due : ℕ) → 0 < due → m.next due m.last + 1 ≡ due
  pub takes : (due : ℕ) (row : List ℕ) (line : Line) → m.read due row ≡ Some line → row_of line ≡ row
  pub near : (due : ℕ) (row : List ℕ) (line : Line) → m.read due row ≡ Some line → length row ≤ MAX_RECORD_BYTES
      → m.next due line ≤ due + length row * MAX_RECORD_BYTES

-- the lines lead from what is due before them to what is due after
abbrev pub IsDueAfter : {Line : Type 0} {row_of : Line → List ℕ} → Rules row_of → ℕ → List Line → ℕ → Type 0
IsDueAfter {Line} {row_of} m due [] after = due ≡ after
IsDueAfter {Line} {row_of} m due (line ∷ lines) after = (0 < due) × (m.read due (row_of line) ≡ Some line) × IsDueAfter m (m.next due line) lines after

-- a row without an LF
abbrev pub HasNone : List ℕ → Type 0
HasNone row = list_all (λ b. not (b == 10)) row ≡ true

-- what is known of a kind of record: whole lines are read one after another, a claim's rows say one claim, a claim that
-- a text can hold, and no row has an LF
pub record Facts {Claim Line : Type 0} (k : Kind Claim Line) (m : Rules k.row_of) : Type 0 where
  pub rules : RulesHold m
  pub leads : (lines : List Line) → AllByRecursion k.IsLine lines → k.AreWhole lines → IsDueAfter m 1 lines 0
  pub whole : (lines : List Line) → IsDueAfter m 1 lines 0 → AllByRecursion k.IsLine lines × k.AreWhole lines
  pub one_claim : (a b : Claim) (x y : List (List ℕ)) → k.IsClaim a → k.IsClaim b → k.claim_rows a ++ x ≡ k.claim_rows b ++ y → (a ≡ b) × (x ≡ y)
  pub some_rows : (claim : Claim) → 0 < length (k.claim_rows claim)
  pub example : Claim
  pub example_is : k.IsClaim example
  pub title_plain : HasNone k.title
  pub claim_plain : (claim : Claim) → k.IsClaim claim → AllByRecursion HasNone (k.claim_rows claim)
  pub line_plain : (line : Line) → k.IsLine line → HasNone (k.row_of line)
