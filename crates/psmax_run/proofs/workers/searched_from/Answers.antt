use Rattle.std.proofs.Common.{inr}
use Rattle.std.proofs.lemmas.Result.{MatchResult-weaker}
use Rattle.psmax_run.proofs.workers.searched_from.Goals as goal

pub returns-in-Feasible-clause-said : goal.returns-in-Feasible-clause-said
returns-in-Feasible-clause-said g c =
    let given = rw (c.in_ok-project.ensures.ok, c.in-Feasible.is) at c.in_ok-start.ensures.judged in
    MatchResult-weaker c.searched.result c.searched.ensures.found
    (λ reply found. record { read = given.read; has = inr (given.has.1, rw (c.in_ok-project.ensures.ok, given.has.0) at found.said) })
    (λ _ _. tt)
