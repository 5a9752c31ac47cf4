use Rattle.std.proofs.lemmas.Result.{MatchResult-weaker}
use Rattle.psmax_run.proofs.JobLaws.{alone_is_true}
use Rattle.psmax_run.proofs.jobs.solve.Goals as goal

-- the search ran on this very project
pub returns : goal.returns
returns c =
    let outcome = rw c.in_ok-project.ensures.ok at c.in_ok-outcome.ensures.true_of in
    let only = rw c.in_ok-project.ensures.ok at c.in_ok-outcome.ensures.takes in
    MatchResult-weaker c.solved_answer.result c.solved_answer.ensures
    (λ a says. alone_is_true c.args.project c.args.takes _ c.args.json a.exit a.text.items outcome c.in_ok-outcome.ensures.below_best only says)
    (λ _ _. tt)
