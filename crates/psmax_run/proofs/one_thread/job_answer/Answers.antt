use Rattle.std.proofs.Common.{◌≡◌, ◌∙◌, refl, inl, inr}
use Rattle.std.proofs.lemmas.Result.{MatchResult-weaker, err_from_is_err_and}
use Rattle.psmax_run.proofs.JobLaws.{answers_alone}
use Rattle.devices.proofs.TextLaws.{spells_one, starts_whole, starts_fault_whole}
use Rattle.answers.specs.Answers.{IsCheckText}
use Rattle.psmax_run.proofs.one_thread.job_answer.Goals as goal

pub returns-in_err-project-in-Check-clause-refused : goal.returns-in_err-project-in-Check-clause-refused
returns-in_err-project-in-Check-clause-refused g c =
    let p = err_from_is_err_and c.from_residual-in_err-project-in-Check.result c.from_residual-in_err-project-in-Check.ensures.1 in
    let same : p.0 ≡ c.in_err-project-in-Check.field-0.0 = let is = p.2 in cc in
    rw (p.1, same) (λ other text more told told_more.
    rw c.in-Check.is (inl (c.in_err-project-in-Check.ensures.refused other more
    (told_more (rw c.in-Check.is refl)))))

pub returns-in_ok-project-in-Check-clause-said : goal.returns-in_ok-project-in-Check-clause-said
returns-in_ok-project-in-Check-clause-said g c =
    let p = c.in_ok-project-in-Check.project in
    MatchResult-weaker c.check.result c.check.ensures.said
    (λ a said text more told told_more. rw c.in-Check.is (spells_one p more _ c.in_ok-project-in-Check.ensures.project (told_more (rw c.in-Check.is refl))
    (starts_whole p c.deref.result.now text (λ starts. IsCheckText p starts a.exit a.text.items)
    (c.deref.ensures.value ∙ c.in_ok-project-in-Check.ensures.told text told) said)))
    (λ _ _. tt)

pub returns-in_ok-project-in-Check-clause-refused : goal.returns-in_ok-project-in-Check-clause-refused
returns-in_ok-project-in-Check-clause-refused g c =
    let p = c.in_ok-project-in-Check.project in
    MatchResult-weaker c.check.result c.check.ensures.refused (λ _ _. tt)
    (λ fault refused other text more told told_more.
    rw c.in-Check.is (inr (spells_one p more _ c.in_ok-project-in-Check.ensures.project
    (told_more (rw c.in-Check.is refl))
    (starts_fault_whole p c.deref.result.now text fault (c.deref.ensures.value ∙ c.in_ok-project-in-Check.ensures.told text told) (refused other)))))

pub returns-in_ok-solve-in-Solve-clause-said : goal.returns-in_ok-solve-in-Solve-clause-said
returns-in_ok-solve-in-Solve-clause-said g c = λ text more told told_more.
    answers_alone c.args.job c.in-Solve.options text more c.in_ok-solve-in-Solve.field-0.exit
    c.in_ok-solve-in-Solve.field-0.text.items c.in-Solve.is c.requires.alone
    (spells_one c.in_ok-project-in-Solve.project text _ c.in_ok-project-in-Solve.ensures.project told c.in_ok-solve-in-Solve.ensures)
