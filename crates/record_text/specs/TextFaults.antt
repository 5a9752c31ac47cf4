-- The first fault of a text that is no record's.
use Rattle.std.specs.Prelude.{◌≡◌, ◌≢◌, ℕ, ◌<◌, ◌≤◌, ◌⊎◌, Option, None, Result, MatchResult, List, [], ◌∷◌, length}
use Rattle.record_text.specs.declared.fault.RecordFault.{RecordFault}
use Rattle.record_text.specs.declared.fault.RecordFaultKind.{RecordFaultKind}
use Rattle.record_text.specs.declared.fault.RecordFaultKind.TheVariants as why
use Rattle.record_text.specs.Kinds.{RecordOf, Kind, AreRows, Spells, MAX_RECORD_BYTES}
use Rattle.record_text.specs.Rows as rows
use Rattle.record_text.specs.Rows.{RowFault, HasRowFault, line_pieces, missing}

-- the name of what is wrong with a row
abbrev pub why_of : RowFault → RecordFaultKind
why_of rows.form = why.Form
why_of rows.short = why.Short
why_of rows.trailing = why.Trailing

-- the first row that is wrong
pub record HasFault
    {Claim Line : Type 0} (k : Kind Claim Line) (all : List (List ℕ)) (fault : RecordFault) : Type 0 where
  pub what : RowFault
  pub kind : fault.kind ≡ why_of what
  pub row : HasRowFault (AreRows k) all fault.line what

-- the text has more bytes than are read
abbrev pub IsTooLong : List ℕ → RecordFault → Type 0
IsTooLong text fault = (MAX_RECORD_BYTES < length text) × (fault ≡ record { line = 0; kind = why.TooLong })

-- the first fault of a text: its length, and else its first line that is wrong
abbrev pub IsFirstTextFault : {Claim Line : Type 0} → Kind Claim Line → List ℕ → RecordFault → Type 0
IsFirstTextFault k text fault =
    IsTooLong text fault ⊎ ((length text ≤ MAX_RECORD_BYTES) × HasFault k (line_pieces text) fault)

-- a text is that of one record at most
abbrev pub RecordIsOne : {Claim Line : Type 0} → Kind Claim Line → Type 0
RecordIsOne {Claim} {Line} k =
    (text : List ℕ) (q r : RecordOf Claim Line) → Spells k text q → Spells k text r → q ≡ r

-- and has one first fault at most
abbrev pub FirstFaultIsOne : {Claim Line : Type 0} → Kind Claim Line → Type 0
FirstFaultIsOne k =
    (text : List ℕ) (a b : RecordFault) → IsFirstTextFault k text a → IsFirstTextFault k text b → a ≡ b

-- and not both
abbrev pub FaultIsNoRecord : {Claim Line : Type 0} → Kind Claim Line → Type 0
FaultIsNoRecord {Claim} {Line} k =
    (text : List ℕ) (r : RecordOf Claim Line) (fault : RecordFault) → Spells k text r → IsFirstTextFault k text fault → ⊥

-- that a line is not of the grammar where it stands
abbrev pub form : ℕ → RecordFault
form line = record { line = line; kind = why.Form }

-- unless memory ran out, the row said nothing, and the fault is that its line is not of the grammar
abbrev pub IsFormFault : {A : Type 0} → Option A → ℕ → RecordFault → Type 0
IsFormFault said line fault = fault.kind ≢ why.Memory → (said ≡ None) × (fault ≡ form line)

-- no row ends in the text, and the fault is that one must come at this line
abbrev pub IsMissing : List ℕ → ℕ → RecordFault → Type 0
IsMissing text line fault =
    (line_pieces text ≡ text ∷ []) × (fault ≡ record { line = line; kind = why_of (missing text) })

-- another row than this comes first, and that is the fault
pub record IsOther (title text : List ℕ) (fault : RecordFault) : Type 0 where
  pub row : List ℕ
  pub rest : List ℕ
  pub first : line_pieces text ≡ row ∷ line_pieces rest
  pub other : row ≢ title
  pub told : fault ≡ form 1

-- the text is too long, or this is not its first row
abbrev pub IsTitleFault : List ℕ → List ℕ → RecordFault → Type 0
IsTitleFault title text fault =
    IsTooLong text fault ⊎ ((length text ≤ MAX_RECORD_BYTES) × (IsMissing text 1 fault ⊎ IsOther title text fault))

-- the text is read as this record, unless memory runs out
abbrev pub IsReadAs : {R : Type 0} → Result R RecordFault → R → Type 0
IsReadAs read r = MatchResult read (λ found. found ≡ r) (λ fault. fault.kind ≡ why.Memory)
