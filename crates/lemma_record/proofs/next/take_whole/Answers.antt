use Rattle.std.proofs.Common.{List, ℕ}
use Rattle.std.proofs.lemmas.Result.{MatchResult-weaker, err_from_is_err_and}
use Rattle.network.specs.Problem.{Problem}
use Rattle.lemma_record.specs.Parts.{has}
use Rattle.lemma_record.specs.Reached.{IsAt, TakesNext}
use Rattle.lemma_record.proofs.Stepping.{at_claim, at_step, wrong_found}
use Rattle.lemma_record.proofs.next.take_whole.Goals as goal

pub returns-in_err-claim-clause-fault : goal.returns-in_err-claim-clause-fault
returns-in_err-claim-clause-fault c =
    let p = err_from_is_err_and c.from_residual.result c.from_residual.ensures.1 in
    rw (p.1, p.2) (λ other q text more at.
    let is = c.in_err-claim.ensures.wrong other in
    wrong_found c.args.part.now q text more c.loop-claim.draft c.loop-claim.left.now c.loop-claim.next
    c.in_err-claim.field-0.0 (c.loop-claim.invariant q text at) is.0 is.1)

pub loop-claim-preserved : goal.loop-claim-preserved
loop-claim-preserved c p text at =
    let next : TakesNext (has c.args.part.now c.loop-claim.next) c.loop-claim.draft c.loop-claim.left.now
    c.in-Some.claim c.in-Some.rest.now c.take_next.new.draft = rw c.in-Some.is at c.in_ok-claim.ensures.taken in
    rw c.saturating_add-next.ensures
    (at_step c.args.part.now p text c.loop-claim.draft c.take_next.new.draft c.loop-claim.left.now c.in-Some.rest.now
    c.loop-claim.next (c.loop-claim.invariant p text at) (rw c.in_default-claim.is at next))

pub returns-in-Some-claim-clause-read : goal.returns-in-Some-claim-clause-read
returns-in-Some-claim-clause-read c =
    let next : TakesNext (has c.args.part.now c.loop-claim.next) c.loop-claim.draft c.loop-claim.left.now
    c.in-Some.claim c.in-Some.rest.now c.take_next.new.draft = rw c.in-Some.is at c.in_ok-claim.ensures.taken in
    let has = λ (p : Problem) (text : List ℕ)
    (at : IsAt c.args.part.now p text c.loop-claim.draft c.loop-claim.left.now c.loop-claim.next).
    at_claim c.args.part.now p text c.loop-claim.draft c.take_next.new.draft c.loop-claim.left.now
    c.in-Some.rest.now c.loop-claim.next c.in-Some-claim.proved at (rw c.in-Some-claim.is at next) in
    MatchResult-weaker c.ended.result (rw c.saturating_add-next.ensures at c.ended.ensures.read)
    (λ stop read p text at. read c.args.part.now p text c.take_next.new.draft (has p text (c.loop-claim.invariant p text at)))
    (λ _ _. tt)

pub returns-in-Some-claim-clause-fault : goal.returns-in-Some-claim-clause-fault
returns-in-Some-claim-clause-fault c =
    let next : TakesNext (has c.args.part.now c.loop-claim.next) c.loop-claim.draft c.loop-claim.left.now
    c.in-Some.claim c.in-Some.rest.now c.take_next.new.draft = rw c.in-Some.is at c.in_ok-claim.ensures.taken in
    let has = λ (p : Problem) (text : List ℕ)
    (at : IsAt c.args.part.now p text c.loop-claim.draft c.loop-claim.left.now c.loop-claim.next).
    at_claim c.args.part.now p text c.loop-claim.draft c.take_next.new.draft c.loop-claim.left.now
    c.in-Some.rest.now c.loop-claim.next c.in-Some-claim.proved at (rw c.in-Some-claim.is at next) in
    MatchResult-weaker c.ended.result (rw c.saturating_add-next.ensures at c.ended.ensures.fault)
    (λ _ _. tt)
    (λ fault told other p text more at. told c.args.part.now p text more (has p text (c.loop-claim.invariant p text at)))
