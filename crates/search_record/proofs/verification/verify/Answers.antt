use Rattle.std.proofs.Common.{◌≡◌, ◌≢◌, ◌∙◌, ap, inr, rules}
use Rattle.std.proofs.lemmas.Result.{err_from_is_err_and}
pub use Rattle.record_text.specs.declared.fault.RecordFaultKind.TheVariants.{Memory}
use Rattle.record_text.specs.Kinds.{first_line}
use Rattle.record_text.specs.Text.{search_kind, says}
use Rattle.record_text.proofs.FirstWrong.{refused}
use Rattle.search_record.specs.Right.{limit_of, AreRightStarts, AreRightLines, IsFirstWrong, IsRight, search_judge}
use Rattle.search_record.proofs.Truth.{right_is_true, faulty_is_wrong}
use Rattle.search_record.proofs.verification.verify.Goals as goal

pub returns-in_err-check_lines : goal.returns-in_err-check_lines
returns-in_err-check_lines c =
    let from = err_from_is_err_and c.from_residual-in_err-check_lines.result c.from_residual-in_err-check_lines.ensures.1 in
    let claimed : AreRightStarts c.args.project.now c.claim-claim.result.now = search rules in
    let starts : AreRightStarts c.args.project.now c.args.shown.now.claim = rw c.claim-claim.ensures.claim at claimed in
    let first : c.in_err-check_lines.field-0.0.kind ≢ Memory
    → IsFirstWrong c.args.project.now (limit_of c.args.shown.now.claim)
    (first_line search_kind c.args.shown.now.claim) c.args.shown.now.lines c.in_err-check_lines.field-0.0 =
    rw (c.limit_of.ensures, c.first_line.ensures.is, c.claim-claim.ensures.claim, c.lines.ensures.lines) at c.in_err-check_lines.ensures.fault in
    rw (from.1, from.2) (refused search_kind search_judge faulty_is_wrong c.args.project.now c.args.shown.now
    c.in_err-check_lines.field-0.0 (λ known. inr (record { starts = starts; first = first known })))

pub returns : goal.returns
returns c =
    let claimed : AreRightStarts c.args.project.now c.claim-claim.result.now = search rules in
    let starts : AreRightStarts c.args.project.now c.args.shown.now.claim = rw c.claim-claim.ensures.claim at claimed in
    let lines : AreRightLines c.args.project.now (limit_of c.args.shown.now.claim) c.args.shown.now.lines =
    rw (c.limit_of.ensures, c.claim-claim.ensures.claim, c.lines.ensures.lines) at c.in_ok-check_lines.ensures.right
    in
    let right : IsRight c.args.project.now c.args.shown.now = record { starts = starts; lines = lines } in
    let said : c.says.result ≡ says c.args.shown.now.claim = c.says.ensures ∙ ap says c.claim-claim.ensures.claim in
    record { right = right; proved = said; holds = rw said (right_is_true c.args.project.now c.args.shown.now right); fault = tt; only = λ _. tt }
