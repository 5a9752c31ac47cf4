-- Each program keeps the promise.
use Rattle.std.proofs.Common.{◌≡◌, ◌⊎◌, inl, inr, ℕ, ℤ, Bool, true, false, List, None, Some, Option}
use Rattle.network.specs.Problem.{Problem}
use Rattle.devices.specs.Runs.{ReplyOf}
use Rattle.answers.proofs.OutcomeLaws.{said_is_true}
use Rattle.psmax_run.specs.Jobs.{IsSearchAnswer}
use Rattle.psmax_run.specs.Outcomes.{IsUnstartedText}
use Rattle.psprove_run.specs.Story.{IsShownReply, IsStartedReply, ReplyTo}
use Rattle.verify_run.specs.Verified.{IsRecordProof}
use Rattle.verify_run.specs.declared.scope.Scope.{Scope}
use Rattle.verify_run.specs.declared.scope.Scope.TheVariants as scopes
use Rattle.verify_run.specs.declared.verifying.RecordKind.{RecordKind}
use Rattle.promise.specs.Promise.{IsAnswer, IsProved, Says}
use Rattle.promise.specs.Kept.{PsmaxKeeps, PsproveKeeps, VerifyKeeps}
use Rattle.promise.proofs.Words.{spelled}
use Rattle.promise.proofs.Answers.{answer_of, proved_of, says_found, says_of, says_started, says_violations}

-- ---- psmax

unstarted : (p : Problem) (by_workers : Bool) (nodes exit : ℕ) (written : List ℕ) → IsUnstartedText p by_workers nodes false exit written
    → Says exit p written
unstarted p true nodes exit written is = says_found p None exit written is
unstarted p false nodes exit written is = says_of p true exit written is.said

searched : (start by_workers json : Bool) (nodes exit : ℕ) (text more written : List ℕ) → json ≡ false
    → IsSearchAnswer start by_workers nodes json text more exit written → IsAnswer text exit written
searched start by_workers true nodes exit text more written plain is = cc plain
searched false by_workers false nodes exit text more written plain is =
    answer_of text exit written _ is (λ p has. unstarted p by_workers nodes exit written has)
searched true by_workers false nodes exit text more written plain is =
    answer_of text exit written _ is (λ p has. says_started p _ exit written has.has)

pub psmax_keeps : PsmaxKeeps
psmax_keeps o reply text more plain is = searched o.start _ o.json o.nodes reply.exit text more reply.text plain is.answer

-- ---- psprove

shown : (p : Problem) (from : Option (List ℤ)) (reply : ReplyOf) → IsShownReply p from false reply → Says reply.exit p reply.text
shown p from reply is = says_of p false reply.exit reply.text
    (said_is_true p is.outcome false false reply.exit reply.text is.is_shown.true_of (λ (on : false ≡ true). cc on) is.said)

started : (p : Problem) (reply : ReplyOf) (starts : List ℤ) → IsStartedReply p false reply starts → Says reply.exit p reply.text
started p reply starts (inl refused) = says_violations p starts reply.exit reply.text refused.said
started p reply starts (inr is) = shown p (Some starts) reply is.1

replied : (start json : Bool) (reply : ReplyOf) (text more : List ℕ) → json ≡ false → ReplyTo start json reply text more
    → IsAnswer text reply.exit reply.text
replied start true reply text more plain is = cc plain
replied false false reply text more plain is = answer_of text reply.exit reply.text _ is (λ p has. shown p None reply has)
replied true false reply text more plain is = answer_of text reply.exit reply.text _ is (λ p has. started p reply _ has.has)

pub psprove_keeps : PsproveKeeps
psprove_keeps asked reply text more plain is = replied asked.start asked.json reply text more plain is

-- ---- verify

whole_or_so_far : (scope : Scope) (own : RecordKind) (p : Problem) (text written : List ℕ) → (scope ≡ scopes.Whole) ⊎ (scope ≡ scopes.SoFar)
    → IsRecordProof scope own p text written → IsProved p written
whole_or_so_far scope own p text written is (inl tree) = proved_of p _ written tree.1.has.true_of tree.1.has.text
whole_or_so_far scopes.Whole own p text written is (inr log) = proved_of p log.1.what written log.1.true_of log.1.line
whole_or_so_far scopes.SoFar own p text written is (inr log) = proved_of p log.1.what written log.1.true_of log.1.line
whole_or_so_far (scopes.Part part) own p text written (inl bad) (inr log) = cc bad
whole_or_so_far (scopes.Part part) own p text written (inr bad) (inr log) = cc bad

pub verify_keeps : VerifyKeeps
verify_keeps scope own text second written which is =
    (is.project, spelled second is.project is.is_project is.spells, whole_or_so_far scope own is.project text written which is.has)
