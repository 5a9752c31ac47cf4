use Rattle.std.proofs.lemmas.Result.{MatchResult-weaker}
use Rattle.verify_run.proofs.log_proof.verdict.Goals as goal

pub returns-clause-shown : goal.returns-clause-shown
returns-clause-shown g c =
    MatchResult-weaker c.read_log.result c.read_log.ensures.shown
    (λ what shows. shows c.args.project.now c.in_ok-checker.ensures.0) (λ _ _. tt)

pub returns-clause-refused : goal.returns-clause-refused
returns-clause-refused g c =
    MatchResult-weaker c.read_log.result c.read_log.ensures.refused (λ _ _. tt)
    (λ fault tells other. tells other c.args.project.now c.in_ok-checker.ensures.0)
