use Rattle.std.proofs.Common.{◌≡◌, ◌++◌, ◌∷◌, [], ap, arith, length, length-append, refl}
use Rattle.std.proofs.lemmas.Result.{err_from_is_err_and}
use Rattle.record_text.specs.Rows.{form, trailing, missing}
use Rattle.record_text.specs.Kinds.{AreRows, head_rows}
use Rattle.record_text.proofs.Rows.{not_nil}
use Rattle.record_text.proofs.IsDueAfter.{reached_more, reached_missing, reached_form, reached_trailing}
use Rattle.record_text.proofs.KindLaws.{grammar, named, record_from}
use Rattle.record_text.proofs.read.read_lines.Goals as goal

pub returns-in_err-row-clause-fault : goal.returns-in_err-row-clause-fault
returns-in_err-row-clause-fault g c =
    let p = err_from_is_err_and c.from_residual.result c.from_residual.ensures.1 in
    let e = c.in_err-row.ensures.fault in
    let claim = c.args.claim.now in
    let at = reached_missing (AreRows g.L.RecordLine.kind) g.L.RecordLine.rules (head_rows g.L.RecordLine.kind claim)
    (grammar c.known.ensures claim c.requires.claim) c.loop-due.lines.items c.loop-due.due c.loop-due.line
    c.args.text.now c.loop-due.rest.now c.loop-due.invariant.reached c.loop-due-test.true e.0 in
    rw (p.1, p.2) (λ known. named g.L.RecordLine.kind _ _ (missing c.loop-due.rest.now) c.in_err-row.field-0.0 e.1 at)

pub returns-in_err-found-clause-fault : goal.returns-in_err-found-clause-fault
returns-in_err-found-clause-fault g c =
    let p = err_from_is_err_and c.from_residual-in_err-found.result c.from_residual-in_err-found.ensures.1 in
    let claim = c.args.claim.now in
    rw (p.1, p.2) (λ known. let e = c.in_err-found.ensures.fault known in
    named g.L.RecordLine.kind _ _ form c.in_err-found.field-0.0 e.1
    (reached_form (AreRows g.L.RecordLine.kind) g.L.RecordLine.rules (head_rows g.L.RecordLine.kind claim)
    (grammar c.known.ensures claim c.requires.claim) c.loop-due.lines.items c.loop-due.due c.loop-due.line
    c.args.text.now c.loop-due.rest.now c.in_ok-row.row.now c.in_ok-row.more.now c.loop-due.invariant.reached
    c.loop-due-test.true c.in_ok-row.ensures.row e.0))

pub still_due-due-requires-clause-row : goal.still_due-due-requires-clause-row
still_due-due-requires-clause-row g c =
    omega (
      arith,
      ap length (c.known.ensures.rules.takes c.loop-due.due c.in_ok-row.row.now c.in_ok-found.found
          c.in_ok-found.ensures.found),
      c.in_ok-row.ensures.shorter,
      c.loop-due.invariant.lines,
    )

pub loop-due-preserved : goal.loop-due-preserved
loop-due-preserved g c =
    let i = c.loop-due.invariant in
    let found = c.in_ok-found.found in
    let is = c.in_ok-found.ensures.found in
    let more : c.push.new.self.items ≡ c.loop-due.lines.items ++ found ∷ [] = c.in_ok-push.ensures.items in
    let counted : length c.push.new.self.items ≡ length (c.loop-due.lines.items ++ found ∷ []) = ap length more in
    record {
      reached = rw (more, c.still_due-due.ensures)
          (reached_more g.L.RecordLine.rules c.known.ensures.rules (head_rows g.L.RecordLine.kind c.args.claim.now)
          c.loop-due.lines.items c.loop-due.due c.loop-due.line c.args.text.now c.loop-due.rest.now c.in_ok-row.row.now
          c.in_ok-row.more.now found i.reached c.loop-due-test.true c.in_ok-row.ensures.row is);
      room = rw c.still_due-due.ensures (omega (
        arith,
        c.known.ensures.rules.near c.loop-due.due c.in_ok-row.row.now found is
            (omega (arith, i.lines, c.in_ok-row.ensures.shorter)),
        c.in_ok-row.ensures.shorter,
        i.room,
      ));
      lines = omega (arith, i.lines, counted, length-append c.loop-due.lines.items (found ∷ []), c.in_ok-row.ensures.shorter);
    }

pub returns-then-not-is_empty-clause-fault : goal.returns-then-not-is_empty-clause-fault
returns-then-not-is_empty-clause-fault g c = λ known.
    let claim = c.args.claim.now in
    let some = not_nil c.loop-due.rest.now c.is_empty.result c.is_empty.ensures c.if-not-is_empty.true in
    named g.L.RecordLine.kind _ _ trailing _ refl
    (reached_trailing (AreRows g.L.RecordLine.kind) g.L.RecordLine.rules (head_rows g.L.RecordLine.kind claim)
    (grammar c.known.ensures claim c.requires.claim) c.loop-due.lines.items c.loop-due.due c.loop-due.line
    c.args.text.now c.loop-due.rest.now c.loop-due.invariant.reached (omega (arith, c.loop-due-test.false)) some)

pub returns-clause-record : goal.returns-clause-record
returns-clause-record g c = rw c.shrink_to_fit.ensures.items
    (record_from c.known.ensures c.args.claim.now c.loop-due.lines.items c.loop-due.due c.requires.claim
    c.loop-due.invariant.reached.leads (omega (arith, c.loop-due-test.false)))

pub overflow_add-line : goal.overflow_add-line
overflow_add-line g c = omega (
  arith,
  c.first_line-line.ensures.is,
  c.first_line-line.ensures.few,
  c.loop-due.invariant.reached.at,
  c.loop-due.invariant.lines,
  c.requires.size,
)
