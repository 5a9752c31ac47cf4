-- What a run that verifies a record writes, and why it proves nothing.
use Rattle.std.specs.Prelude.{◌≡◌, ◌≢◌, ◌⊎◌, ◌++◌, ◌+◌, codes, take, List, ℕ, Option}
use Rattle.std.specs.Fmt.{decimal}
use Rattle.network.specs.Problem.{Problem}
use Rattle.network.specs.Schedule.{IsTrueVerdict}
use Rattle.network.specs.declared.verdict.Verdict.{Verdict}
use Rattle.words.specs.declared.TheConstants.{MAX_TEXT_BYTES}
use Rattle.record_text.specs.Kinds as records
use Rattle.record_text.specs.Kinds.{Kind, RecordOf}
use Rattle.record_text.specs.FirstWrong.{Judge, IsRightBy}
use Rattle.record_text.specs.Text.{search_kind}
use Rattle.record_text.specs.TextFaults.{IsFirstTextFault}
use Rattle.record_text.specs.Tree.{SearchRecord}
use Rattle.record_text.specs.declared.fault.RecordFault.{RecordFault}
use Rattle.search_record.specs.Right as wrongs
use Rattle.search_record.specs.Right.{search_judge}
use Rattle.record_text.specs.declared.event_fault.EventFault.{EventFault}
use Rattle.lemma_record.specs.Faults.{IsFirstFault}
use Rattle.lemma_record.specs.Parts.{IsRightTextIn, PartOf, whole}
use Rattle.lemma_record.specs.Right.{IsRightText}
use Rattle.lemma_record.specs.SoFar.{IsProvedSoFar}
use Rattle.devices.specs.declared.fault.Fault.{Fault}
use Rattle.answers.specs.Answers.{proved_line}
use Rattle.devices.specs.Faults.{event_fault_of, exit_of, record_fault_of}
use Rattle.devices.specs.Runs.{GaveSome, GaveUpTo, IfKnown, OneFailedWhere, Span}
use Rattle.devices.specs.Texts.{HasFault, SpellsOne}
use Rattle.verify_run.specs.declared.scope.Scope.{Scope}
use Rattle.verify_run.specs.declared.scope.Scope.TheVariants as scope
use Rattle.verify_run.specs.declared.verifying.RecordKind.{RecordKind}
use Rattle.verify_run.specs.declared.verifying.RecordKind.TheVariants as kind

-- ---- what is read

-- some of the first input is read, of the second no more than of a project's text, and one of them failed exactly where
-- this is so
pub record HasReadRecord {I S : Type 0} (Failed : Type 0) (first : Span I) (second : Span S) : Type 0 where
  pub given : GaveSome first
  pub second_within : GaveUpTo (MAX_TEXT_BYTES + 1) second
  pub failed : OneFailedWhere Failed first second

-- ---- a record of a tree

-- the record is right for the project: what it claims, which is true
pub record IsProvedText
    {Claim Line : Type 0} (k : Kind Claim Line) (j : Judge Claim Line) (p : Problem) (shown : RecordOf Claim Line)
    (written : List ℕ) : Type 0 where
  pub right : IsRightBy j p shown
  pub true_of : IsTrueVerdict p (k.says shown.claim)
  pub text : written ≡ proved_line (k.says shown.claim)

-- the text is that of a record, which has this property
pub record GivesTree (text : List ℕ) (P : SearchRecord → Type 0) : Type 0 where
  pub shown : SearchRecord
  pub spells : records.Spells search_kind text shown
  pub has : P shown

-- it is that of a record which proves what is written
abbrev pub IsTreeProof : Problem → List ℕ → List ℕ → Type 0
IsTreeProof p text written = GivesTree text (λ shown. IsProvedText search_kind search_judge p shown written)

-- a record or its text has this fault, which is told
pub record Tells (Has : RecordFault → Type 0) (fault : Fault) : Type 0 where
  pub cause : RecordFault
  pub first : Has cause
  pub told : fault ≡ record_fault_of cause

-- why the text proves nothing: its first fault, if it is that of no record, or the record's
abbrev pub IsTreeFault : Problem → List ℕ → Fault → Type 0
IsTreeFault p text fault =
    Tells (IsFirstTextFault search_kind text) fault ⊎ GivesTree text (λ shown. Tells (wrongs.IsFirstFault p shown) fault)

-- ---- a record of lemmas

-- the part of it that is checked
abbrev pub part_in : Scope → PartOf
part_in scope.Whole = whole
part_in scope.SoFar = whole
part_in (scope.Part part) = part

-- a right record shows what it claims; where it may be cut off, what the ledger claims there; and where a part of it is
-- checked, what is claimed if all parts are right
abbrev pub Shows : Scope → Problem → List ℕ → Verdict → Type 0
Shows scope.Whole p text what = IsRightText p text what
Shows scope.SoFar p text what = IsProvedSoFar p text what
Shows (scope.Part part) p text what = IsRightTextIn part p text what

-- what is shown is true of the project, unless a part alone is checked
abbrev pub IsTrueOf : Scope → Problem → Verdict → Type 0
IsTrueOf scope.Whole p what = IsTrueVerdict p what
IsTrueOf scope.SoFar p what = IsTrueVerdict p what
IsTrueOf (scope.Part part) p what = Unit {0}

abbrev pub line_of : Scope → Verdict → List ℕ
line_of scope.Whole what = proved_line what
line_of scope.SoFar what = proved_line what
line_of (scope.Part part) what =
    (codes "part " ++ (decimal part.number ++ (codes "/" ++ (decimal part.count ++ codes " of ")))) ++ proved_line what

-- the line of what the record shows
pub record IsLogProof (scope : Scope) (p : Problem) (text written : List ℕ) : Type 0 where
  pub what : Verdict
  pub shows : Shows scope p text what
  pub true_of : IsTrueOf scope p what
  pub line : written ≡ line_of scope what

-- the first fault of the record in what is checked, which is told
pub record TellsEvent (scope : Scope) (p : Problem) (text : List ℕ) (fault : Fault) : Type 0 where
  pub cause : EventFault
  pub first : IsFirstFault (part_in scope) p text cause
  pub told : fault ≡ event_fault_of cause

-- ---- a record of either kind

-- A title is that of a tree. One of neither kind is taken for one of the kind at hand. A record that may be cut off, or of
-- which a part is checked, is one of lemmas.
abbrev pub BeginsTree : Scope → RecordKind → List ℕ → Type 0
BeginsTree scope.Whole kind.Tree title = title ≢ codes "record 3\n"
BeginsTree scope.Whole kind.Lemmas title = title ≡ codes "record 1\n"
BeginsTree scope own title = ⊥

-- a text is that of a tree: by its title, which has 9 bytes
abbrev pub IsTree : Scope → RecordKind → List ℕ → Type 0
IsTree scope own text = BeginsTree scope own (take 9 text)

-- of a text that is a tree's this, and of any other that
abbrev pub OfKind : Scope → RecordKind → List ℕ → Type 0 → Type 0 → Type 0
OfKind scope own text This That = (IsTree scope own text × This) ⊎ ((¬ IsTree scope own text) × That)

-- what is written is what the record proves
abbrev pub IsRecordProof : Scope → RecordKind → Problem → List ℕ → List ℕ → Type 0
IsRecordProof scope own p text written = OfKind scope own text (IsTreeProof p text written) (IsLogProof scope p text written)

-- the fault is that of the record
abbrev pub IsRecordFault : Scope → RecordKind → Problem → List ℕ → Fault → Type 0
IsRecordFault scope own p text fault = OfKind scope own text (IsTreeFault p text fault) (TellsEvent scope p text fault)

-- ---- the story of a run

-- where both inputs tell their texts, these have this property
abbrev pub IfBothKnown : Option (List ℕ) → Option (List ℕ) → (List ℕ → List ℕ → Type 0) → Type 0
IfBothKnown first second P = IfKnown first (λ text. IfKnown second (P text))

-- the second text spells a project, of which the first proves this
abbrev pub IsProof : Scope → RecordKind → List ℕ → List ℕ → List ℕ → Type 0
IsProof scope own text second written = SpellsOne second (λ p. IsRecordProof scope own p text written)

-- the second text spells no project, or the first has a fault
abbrev pub IsRefusal : Scope → RecordKind → List ℕ → List ℕ → Fault → Type 0
IsRefusal scope own text second fault = HasFault second fault ⊎ SpellsOne second (λ p. IsRecordFault scope own p text fault)

-- what the first input tells proves something of the project that the second tells, and this is done with the line
-- that says so
pub record Proves (scope : Scope) (own : RecordKind) (first second : Option (List ℕ)) (Done : List ℕ → Type 0) : Type 0 where
  pub text : List ℕ
  pub proof : IfBothKnown first second (λ told more. IsProof scope own told more text)
  pub done : Done text

-- it proves nothing: for want of memory or of a device, or for this fault of a text
abbrev pub IsNoProof : Scope → RecordKind → Option (List ℕ) → Option (List ℕ) → Fault → Type 0
IsNoProof scope own first second fault =
    exit_of fault ≢ 1 → IfBothKnown first second (λ text more. IsRefusal scope own text more fault)
