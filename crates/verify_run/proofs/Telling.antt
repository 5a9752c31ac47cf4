-- What a run tells of a record, and of its own end.
use Rattle.std.proofs.Common.{◌≡◌, ◌∙◌, ℕ, List, [], Option, Some, ap, inl, inr, subst, sym, ◌++◌}
use Rattle.std.proofs.KnownBytes.{Consumes-trans}
use Rattle.std.specs.Io.KnownBytes.{Consumes}
use Rattle.network.specs.Problem.{IsProject, Problem}
use Rattle.network.specs.declared.verdict.Verdict.{Verdict}
use Rattle.answers.specs.declared.answer.Answer.{Answer}
use Rattle.devices.specs.declared.fault.Fault.{Fault}
use Rattle.devices.specs.declared.fault.Fault.TheVariants as faults
use Rattle.lemma_record.specs.SoFar.{SoFarIsTrue}
use Rattle.verify_run.specs.Verified.{HasReadRecord}
use Rattle.devices.specs.Runs.{IfKnown, ReadsOn, Span}
use Rattle.verify_run.specs.Verified.{BeginsTree, IsLogProof, IsTree, OfKind, Shows, line_of}
use Rattle.verify_run.specs.declared.scope.Scope.{Scope}
use Rattle.verify_run.specs.declared.scope.Scope.TheVariants as scopes
use Rattle.verify_run.specs.declared.verifying.RecordKind.{RecordKind}
use Rattle.devices.proofs.Endings.{failed_with}
use Rattle.devices.proofs.TextLaws.{all_read, reads_whole, rest_left}

-- the line of what a record of lemmas shows
pub log_proof_of : (scope : Scope) (p : Problem) (text written : List ℕ) (what : Verdict) → IsProject p → SoFarIsTrue
    → Shows scope p text what → written ≡ line_of scope what → IsLogProof scope p text written
log_proof_of scopes.Whole p text written what is law shows line = record { what = what; shows = shows; true_of = law p text what is (inl shows); line = line }
log_proof_of scopes.SoFar p text written what is law shows line = record { what = what; shows = shows; true_of = law p text what is shows; line = line }
log_proof_of (scopes.Part part) p text written what is law shows line = record { what = what; shows = shows; true_of = record {}; line = line }

-- a failure to read is told as it is
pub record_read_is_told : {I S : Type 0} (first : Span I) (second : Span S) (fault : Fault) (told : Option Fault) → told ≡ Some fault
    → HasReadRecord (failed_with Answer fault ≡ failed_with Answer faults.ReadFailed) first second
    → HasReadRecord (told ≡ Some faults.ReadFailed) first second
record_read_is_told first second fault told tells read = record {
  given = read.given;
  second_within = read.second_within;
  failed = record {
    here = λ (e : told ≡ Some faults.ReadFailed). let is : fault ≡ faults.ReadFailed = cc in read.failed.here (ap (failed_with Answer) is);
    elsewhere = λ (no : ¬ (told ≡ Some faults.ReadFailed)).
        read.failed.elsewhere (λ (e : failed_with Answer fault ≡ failed_with Answer faults.ReadFailed).
        let is : fault ≡ faults.ReadFailed = cc in no (tells ∙ ap Some is));
  };
}

-- ---- a record of either kind

-- an empty text went on with what was read
pub title_read : {none head : List ℕ} {told mid : Option (List ℕ)} → none ≡ [] → ReadsOn 9 none told head mid → ReadsOn 9 [] told head mid
title_read {head = head} {told = told} {mid = mid} empty read = subst (λ (text : List ℕ). ReadsOn 9 text told head mid) empty read

module _ {told mid : Option (List ℕ)} {head : List ℕ} (read : ReadsOn 9 [] told head mid) where
  -- what is said of the title and of the rest is said of all that the input tells
  of_all : (P : List ℕ → Type 0) → IfKnown mid (λ rest. P (head ++ rest)) → IfKnown told P
  of_all P said text is =
      let left = rest_left told mid head text (all_read 9 told mid head read) is in
      subst P (sym left.2) (said left.0 left.1)

  pub gave_after : (now : Option (List ℕ)) (rest : List ℕ) → Consumes mid now rest → Consumes told now (head ++ rest)
  gave_after now rest gave = Consumes-trans told mid now head rest (all_read 9 told mid head read) gave

  module _ (scope : Scope) (own : RecordKind) where
    pub is_title : (text : List ℕ) → told ≡ Some text → IsTree scope own text → BeginsTree scope own head
    is_title text is tree = subst (λ (t : List ℕ). BeginsTree scope own t) (sym (reads_whole 9 told mid head text read is)) tree

    pub tree_is : (A B : List ℕ → Type 0) → BeginsTree scope own head → IfKnown mid (λ rest. A (head ++ rest))
        → IfKnown told (λ text. OfKind scope own text (A text) (B text))
    tree_is A B begins said text is =
        inl (subst (λ (t : List ℕ). BeginsTree scope own t) (reads_whole 9 told mid head text read is) begins, of_all A said text is)

    pub lemmas_are : (A B : List ℕ → Type 0) → (¬ BeginsTree scope own head) → IfKnown mid (λ rest. B (head ++ rest))
        → IfKnown told (λ text. OfKind scope own text (A text) (B text))
    lemmas_are A B other said text is = inr (λ tree. other (is_title text is tree), of_all B said text is)
