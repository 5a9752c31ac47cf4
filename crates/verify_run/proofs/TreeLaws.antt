-- What was read of a record of a tree stands for all that the input tells.
use Rattle.std.proofs.Common.{◌≡◌, ℕ, ◌+◌, List, take, subst, inl, inr, arith}
use Rattle.network.specs.Problem.{Problem}
use Rattle.record_text.specs.declared.TheConstants.{MAX_RECORD_BYTES}
use Rattle.record_text.specs.declared.fault.RecordFault.{RecordFault}
use Rattle.record_text.specs.Text.{search_kind}
use Rattle.record_text.specs.Tree.{SearchRecord}
use Rattle.record_text.specs.TextFaults.{IsFirstTextFault}
use Rattle.search_record.specs.Right as wrongs
use Rattle.devices.specs.declared.fault.Fault.{Fault}
use Rattle.verify_run.specs.Verified.{GivesTree, IsTreeFault, Tells}
use Rattle.devices.proofs.TextLaws.{same_or_long}

-- a record that was read is that of all that the input tells
pub tree_whole : (text bytes : List ℕ) (P : SearchRecord → Type 0) → text ≡ take (MAX_RECORD_BYTES + 1) bytes
    → GivesTree text P → GivesTree bytes P
tree_whole text bytes P e h = elim (same_or_long MAX_RECORD_BYTES text bytes e) [
  | inl same ↦ subst (λ (t : List ℕ). GivesTree t P) same h
  | inr long ↦ let size = h.spells.size in absurd (omega (arith, long.0))
]

-- and so is the first fault of a text that is none
text_fault_whole : (text bytes : List ℕ) (cause : RecordFault) → text ≡ take (MAX_RECORD_BYTES + 1) bytes
    → IsFirstTextFault search_kind text cause → IsFirstTextFault search_kind bytes cause
text_fault_whole text bytes cause e h = elim (same_or_long MAX_RECORD_BYTES text bytes e) [
  | inl same ↦ subst (λ (t : List ℕ). IsFirstTextFault search_kind t cause) same h
  | inr long ↦ elim h [
    | inl too ↦ inl (long.1, too.1)
    | inr short ↦ let size = short.0 in absurd (omega (arith, long.0))
  ]
]

pub tree_fault_whole : (p : Problem) (text bytes : List ℕ) (fault : Fault) → text ≡ take (MAX_RECORD_BYTES + 1) bytes
    → IsTreeFault p text fault → IsTreeFault p bytes fault
tree_fault_whole p text bytes fault e (inl h) = inl (record { cause = h.cause; first = text_fault_whole text bytes h.cause e h.first; told = h.told })
tree_fault_whole p text bytes fault e (inr h) = inr (tree_whole text bytes (λ shown. Tells (wrongs.IsFirstFault p shown) fault) e h)
