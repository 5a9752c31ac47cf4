use Rattle.std.proofs.Common.{◌∙◌, arith}
use Rattle.std.proofs.lemmas.Result.{err_from_is_err_and}
use Rattle.network.specs.Problem.{problem_of}
use Rattle.sch_reader.proofs.Spelled.{read_is_spelled, read_alone, spelled_once, fault_of_spelled, first_fault, not_long, is_made}
use Rattle.sch_reader.proofs.text.read_sch.Goals as goal

pub returns-in_err-parts-clause-only : goal.returns-in_err-parts-clause-only
returns-in_err-parts-clause-only c =
    let p = err_from_is_err_and c.from_residual.result c.from_residual.ensures.1 in
    rw (p.1, p.2) (λ q fit s. fault_of_spelled c.args.text.now q c.in_err-parts.field-0.0 fit s c.in_err-parts.ensures)

pub returns-in_err-parts-clause-fault : goal.returns-in_err-parts-clause-fault
returns-in_err-parts-clause-fault c =
    let p = err_from_is_err_and c.from_residual.result c.from_residual.ensures.1 in
    rw (p.1, p.2) (λ other. first_fault c.args.text.now c.in_err-parts.field-0.0 c.if-text-gt-MAX_TEXT_BYTES.false (c.in_err-parts.ensures other))

pub returns-in_err-parts-clause-too_long : goal.returns-in_err-parts-clause-too_long
returns-in_err-parts-clause-too_long c =
    let p = err_from_is_err_and c.from_residual.result c.from_residual.ensures.1 in
    let no = not_long c.args.text.now c.in_err-parts.field-0.0 c.if-text-gt-MAX_TEXT_BYTES.false c.in_err-parts.ensures in
    rw (p.1, p.2) (λ e. absurd (no cc), λ long. absurd (omega arith))

pub returns-in_err-parts-clause-unique : goal.returns-in_err-parts-clause-unique
returns-in_err-parts-clause-unique c = spelled_once c.args.text.now

pub unwrap-project-requires : goal.unwrap-project-requires
unwrap-project-requires c =
    let parts = c.in_ok-parts.parts in
    is_made c.new.result (problem_of parts) c.new.ensures.refused
    (read_is_spelled c.args.text.now (problem_of parts) c.if-text-gt-MAX_TEXT_BYTES.false c.in_ok-parts.ensures).0

pub returns-clause-found : goal.returns-clause-found
returns-clause-found c =
    let made = rw c.unwrap-project.ensures at c.new.ensures.project in
    rw made (read_is_spelled c.args.text.now (problem_of c.in_ok-parts.parts) c.if-text-gt-MAX_TEXT_BYTES.false c.in_ok-parts.ensures)

pub returns-clause-only : goal.returns-clause-only
returns-clause-only c =
    let made = rw c.unwrap-project.ensures at c.new.ensures.project in
    λ p fit s. made ∙ read_alone c.args.text.now (problem_of c.in_ok-parts.parts) p c.in_ok-parts.ensures fit s

pub returns-clause-unique : goal.returns-clause-unique
returns-clause-unique c = spelled_once c.args.text.now
