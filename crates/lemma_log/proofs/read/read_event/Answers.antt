use Rattle.std.proofs.Common.{refl}
use Rattle.std.proofs.lemmas.Result.{err_from_is_err_and}
use Rattle.lemma_log.proofs.CutOff.{back_read, back_fault}
use Rattle.lemma_log.proofs.Suffix.{first_read}
use Rattle.lemma_log.proofs.read.read_event.Goals as goal

pub returns-in_err-event-clause-back : goal.returns-in_err-event-clause-back
returns-in_err-event-clause-back c =
    let p = err_from_is_err_and c.from_residual.result c.from_residual.ensures.1 in
    rw (p.1, p.2) (back_fault c.args.bytes.now c.in_err-event.field-0.0 c.in_err-event.ensures.fault)

pub returns-clause-back : goal.returns-clause-back
returns-clause-back c = back_read c.args.bytes.now c.in_ok-event.rest.now c.in_ok-event.event _ c.in_ok-event.ensures.found refl

pub returns-clause-first : goal.returns-clause-first
returns-clause-first c = first_read c.args.bytes.now c.in_ok-event.rest.now c.in_ok-event.event _ c.in_ok-event.ensures.found refl
