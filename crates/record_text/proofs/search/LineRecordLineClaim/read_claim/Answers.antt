use Rattle.std.proofs.Common.{◌≢◌, List, ℕ, [], ◌∷◌, sym, subst, rules, codes, SFits, w64}
use Rattle.std.proofs.lemmas.Result.{err_from_is_err_and}
use Rattle.std.proofs.lemmas.Int.{to_z-of_z}
use Rattle.record_text.specs.TextFaults.{HasFault}
use Rattle.record_text.specs.Text.{search_kind}
use Rattle.record_text.proofs.KindLaws.{missing_fault, form_fault, stands_second}
use Rattle.record_text.proofs.TextLaws.{stands_third, no_second, no_third, claim_read, facts}
use Rattle.record_text.proofs.search.LineRecordLineClaim.read_claim.Goals as goal

pub returns-in_err-row-clause-fault : goal.returns-in_err-row-clause-fault
returns-in_err-row-clause-fault c =
    let p = err_from_is_err_and c.from_residual.result c.from_residual.ensures.1 in
    let e = c.in_err-row.ensures.fault in
    rw (p.1, p.2) (λ known. missing_fault search_kind (codes "record 1" ∷ []) c.args.text.now c.in_err-row.field-0.0 (stands_second facts) e.0 e.1)

pub returns-in_err-makespan-clause-fault : goal.returns-in_err-makespan-clause-fault
returns-in_err-makespan-clause-fault c =
    let p = err_from_is_err_and c.from_residual-in_err-makespan.result c.from_residual-in_err-makespan.ensures.1 in
    let other : c.in_ok-row.row.now ≢ codes "no schedule" = search rules in
    rw (p.1, p.2) (λ known. let e = c.in_err-makespan.ensures.fault known in
    form_fault search_kind (codes "record 1" ∷ []) c.args.text.now c.in_ok-row.row.now c.in_ok-row.rest.now
    c.in_err-makespan.field-0.0 (stands_second facts) (no_second c.in_ok-row.row.now other e.0)
    c.in_ok-row.ensures.row e.1)

pub returns-in_err-row-2-clause-fault : goal.returns-in_err-row-2-clause-fault
returns-in_err-row-2-clause-fault c =
    let p = err_from_is_err_and c.from_residual-in_err-row-2.result c.from_residual-in_err-row-2.ensures.1 in
    let e = c.in_err-row-2.ensures.fault in
    rw (p.1, p.2) (λ known. subst (λ (ps : List (List ℕ)). HasFault search_kind (codes "record 1" ∷ ps) c.in_err-row-2.field-0.0) (sym c.in_ok-row.ensures.row)
    (missing_fault search_kind (codes "record 1" ∷ c.in_ok-row.row.now ∷ []) c.in_ok-row.rest.now
    c.in_err-row-2.field-0.0 (stands_third c.in_ok-row.row.now c.in_ok-makespan.makespan
    c.in_ok-makespan.ensures.found) e.0 e.1))

pub returns-in_err-starts-clause-fault : goal.returns-in_err-starts-clause-fault
returns-in_err-starts-clause-fault c =
    let p = err_from_is_err_and c.from_residual-in_err-starts.result c.from_residual-in_err-starts.ensures.1 in
    rw (p.1, p.2) (λ known. let e = c.in_err-starts.ensures.fault known in
    subst (λ (ps : List (List ℕ)). HasFault search_kind (codes "record 1" ∷ ps) c.in_err-starts.field-0.0) (sym c.in_ok-row.ensures.row)
    (form_fault search_kind (codes "record 1" ∷ c.in_ok-row.row.now ∷ []) c.in_ok-row.rest.now c.in_ok-row-2.row.now
    c.in_ok-row-2.rest.now c.in_err-starts.field-0.0
    (stands_third c.in_ok-row.row.now c.in_ok-makespan.makespan c.in_ok-makespan.ensures.found)
    (no_third c.in_ok-row.row.now c.in_ok-row-2.row.now c.in_ok-makespan.makespan c.in_ok-makespan.ensures.found e.0) c.in_ok-row-2.ensures.row e.1))

pub returns-clause-claim : goal.returns-clause-claim
returns-clause-claim c =
    let fits : SFits w64 c.in_ok-makespan.makespan = search rules in
    rw (to_z-of_z w64 c.in_ok-makespan.makespan fits)
    (claim_read c.args.text.now c.in_ok-row.row.now c.in_ok-row.rest.now c.in_ok-row-2.row.now c.in_ok-row-2.rest.now
    c.in_ok-makespan.makespan c.in_ok-starts.starts c.in_ok-row.ensures.row c.in_ok-makespan.ensures.found
    c.in_ok-row-2.ensures.row c.in_ok-starts.ensures.found)
