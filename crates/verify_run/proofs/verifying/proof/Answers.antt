use Rattle.std.proofs.Common.{◌≡◌, inl, inr}
use Rattle.std.proofs.lemmas.Result.{MatchResult-weaker, err_from_is_err_and}
use Rattle.devices.proofs.TextLaws.{spells_one}
use Rattle.verify_run.proofs.verifying.proof.Goals as goal

pub returns-in_err-project-clause-refused : goal.returns-in_err-project-clause-refused
returns-in_err-project-clause-refused g c =
    let p = err_from_is_err_and c.from_residual.result c.from_residual.ensures.1 in
    let same : p.0 ≡ c.in_err-project.field-0.0 = let is = p.2 in cc in
    rw (p.1, same) (λ other text told more told_more. inl (c.in_err-project.ensures.refused other more told_more))

pub returns-clause-said : goal.returns-clause-said
returns-clause-said g c =
    MatchResult-weaker c.record_proof.result c.record_proof.ensures.said
    (λ a said. (
      said.0,
      λ text told more told_more.
          spells_one c.in_ok-project.project more _ c.in_ok-project.ensures.project told_more (said.1 text told),
    ))
    (λ _ _. tt)

pub returns-clause-refused : goal.returns-clause-refused
returns-clause-refused g c =
    MatchResult-weaker c.record_proof.result c.record_proof.ensures.refused (λ _ _. tt)
    (λ fault refused other text told more told_more.
    inr (spells_one c.in_ok-project.project more _ c.in_ok-project.ensures.project told_more
    (refused other text told)))
