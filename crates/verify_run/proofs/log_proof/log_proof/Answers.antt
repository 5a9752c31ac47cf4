use Rattle.std.proofs.Common.{◌∙◌, ◌++◌}
use Rattle.verify_run.proofs.Telling.{log_proof_of}
use Rattle.verify_run.proofs.log_proof.log_proof.Goals as goal

pub returns-clause-said : goal.returns-clause-said
returns-clause-said g c = (
  c.of.ensures.status,
  λ rest told.
      let p = c.args.project.now in
      let text = c.args.head.now ++ rest in
      log_proof_of c.args.scope.now p text c.of.result.text.items c.in_ok-shown.shown c.requires.project c.claim_law.ensures.so_far
      (c.in_ok-shown.ensures.shown rest told) (c.of.ensures.text ∙ c.in_ok-text.ensures),
)
