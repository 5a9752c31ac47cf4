use Rattle.std.proofs.Common.{◌∙◌, sym, ap, None, Some, length}
use Rattle.std.proofs.lemmas.List.{with_items_is}
use Rattle.std.proofs.lemmas.Result.{err_from_is_err_and}
use Rattle.schedule_check.proofs.StartsTexts.{lines_fault, lines_table}
use Rattle.schedule_check.proofs.starts_text.read_lines.Goals as goal

pub returns-in_err-put_lines-clause-fault : goal.returns-in_err-put_lines-clause-fault
returns-in_err-put_lines-clause-fault c =
    let p = err_from_is_err_and c.from_residual-in_err-put_lines.result c.from_residual-in_err-put_lines.ensures.1 in
    rw (p.1, p.2) (λ known. lines_fault c.args.activities c.args.text.now c.as_mut_slice.result.now
    (Some c.in_err-put_lines.field-0.0) (c.as_mut_slice.ensures.value ∙ c.in_ok-table.ensures)
    (c.in_err-put_lines.ensures.fault ∙ sym (c.skip_answer-first.ensures.same.fault c.as_mut_slice.result.now)))

pub returns-clause-fine : goal.returns-clause-fine
returns-clause-fine c =
    lines_fault c.args.activities c.args.text.now c.as_mut_slice.result.now None
    (c.as_mut_slice.ensures.value ∙ c.in_ok-table.ensures)
    (c.in_ok-put_lines.ensures.fault ∙ sym (c.skip_answer-first.ensures.same.fault c.as_mut_slice.result.now))

pub returns-clause-table : goal.returns-clause-table
returns-clause-table c =
    let fine = lines_fault c.args.activities c.args.text.now c.as_mut_slice.result.now None
    (c.as_mut_slice.ensures.value ∙ c.in_ok-table.ensures)
    (c.in_ok-put_lines.ensures.fault ∙ sym (c.skip_answer-first.ensures.same.fault c.as_mut_slice.result.now)) in
    with_items_is c.in_ok-table.table c.put_lines.new.found (c.put_lines.auto.found ∙ ap length c.as_mut_slice.ensures.value ∙ sym c.in_ok-table.table.ok.0) ∙
    lines_table c.args.activities c.args.text.now c.as_mut_slice.result.now c.put_lines.new.found
    (c.as_mut_slice.ensures.value ∙ c.in_ok-table.ensures) fine
    (c.in_ok-put_lines.ensures.put ∙ sym (c.skip_answer-first.ensures.same.table c.as_mut_slice.result.now))
