use Rattle.std.proofs.Common.{◌≡◌, ◌∷◌, List, ℕ, ap, ◌∙◌, subst}
use Rattle.std.proofs.lemmas.Result.{err_from_is_err_and}
use Rattle.record_text.specs.Rows.{line_pieces}
use Rattle.record_text.specs.TextFaults.{IsTitleFault}
use Rattle.record_text.proofs.KindLaws.{text_found, title_fault}
use Rattle.record_text.proofs.record.Recorded.read_text.Goals as goal

pub returns-in_err-rest-clause-fault : goal.returns-in_err-rest-clause-fault
returns-in_err-rest-clause-fault g c =
    let p = err_from_is_err_and c.from_residual.result c.from_residual.ensures.1 in
    let same : c.as_bytes.result.now ≡ g.L.RecordLine.kind.title = c.as_bytes.ensures.value ∙ c.title.ensures in
    rw (p.1, p.2) (λ known. title_fault c.known.ensures c.args.text.now c.in_err-rest.field-0.0
    (subst (λ (title : List ℕ). IsTitleFault title c.args.text.now c.in_err-rest.field-0.0) same
    c.in_err-rest.ensures.fault))

pub returns-clause-found : goal.returns-clause-found
returns-clause-found g c =
    let same : c.as_bytes.result.now ≡ g.L.RecordLine.kind.title = c.as_bytes.ensures.value ∙ c.title.ensures in
    let first = c.in_ok-rest.ensures.rows ∙ ap (λ (title : List ℕ). title ∷ line_pieces c.in_ok-rest.rest.now) same in
    rw c.new.ensures
    (text_found g.L.RecordLine.kind c.args.text.now c.in_ok-rest.rest.now c.in_ok-claim.rest.now c.in_ok-claim.claim
    c.in_ok-lines.lines.items c.in_ok-rest.ensures.size first c.in_ok-claim.ensures.claim.0
    c.in_ok-lines.ensures.rows c.in_ok-lines.ensures.record)
