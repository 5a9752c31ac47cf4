use Rattle.std.proofs.lemmas.Result.{err_from_is_err_and}
use Rattle.lemma_record.proofs.Stepping.{trailing_found}
use Rattle.lemma_record.proofs.next.ended.Goals as goal

pub returns-in_err-nothing_after-clause-fault : goal.returns-in_err-nothing_after-clause-fault
returns-in_err-nothing_after-clause-fault c =
    let p = err_from_is_err_and c.from_residual.result c.from_residual.ensures.1 in
    let told = c.in_err-nothing_after.ensures.fault in
    rw (p.1, p.2) (λ part q text more has. rw told.1 (trailing_found part q text c.args.left.now more c.args.proved c.args.due has told.0))
