use Rattle.std.proofs.lemmas.Int.{to_z-of_z}
use Rattle.std.proofs.Common.{rules, ◌≡◌, get_or, nat_abs, pos, SFits, w64}
use Rattle.std.proofs.lemmas.Result.{err_from_is_err_and}
use Rattle.sch_reader.specs.Layout.{lags_to}
use Rattle.sch_reader.specs.Reading.{reading}
use Rattle.sch_reader.proofs.Readings.{lags_turn, lags_fail, lags_end}
use Rattle.sch_reader.proofs.text.lags_to.Goals as goal

pub returns-in_err-weight : goal.returns-in_err-weight
returns-in_err-weight c =
    let p = err_from_is_err_and c.from_residual-in_err-weight.result c.from_residual-in_err-weight.ensures.1 in
    rw (p.1, p.2) (λ h. lags_fail c.args.from c.args.ends.now c.loop-end.end-index (pos 0) c.loop-end.lags.items
    c.loop-end.reader c.in_err-weight.field-0.0 (reading (lags_to c.args.from c.args.ends.now) c.args.reader.now)
    c.loop-end-test.true (c.in_err-weight.ensures.reads h) c.loop-end.invariant)

pub loop-end-preserved : goal.loop-end-preserved
loop-end-preserved c =
    let fits : SFits w64 c.in_ok-weight.weight = search rules in
    let end : c.unsigned_abs-to.result ≡ nat_abs (get_or c.args.ends.now c.loop-end.end-index (pos 0)) =
    let of_end : SFits w64 (get_or c.args.ends.now c.loop-end.end-index (pos 0)) = search rules
    in simp to_z-of_z at c.unsigned_abs-to.ensures.value in
    rw (c.in_ok-push.ensures.items, to_z-of_z, end)
    (lags_turn c.args.from c.args.ends.now c.loop-end.end-index (pos 0) c.loop-end.lags.items c.loop-end.reader
    c.number.new.self c.in_ok-weight.weight (reading (lags_to c.args.from c.args.ends.now) c.args.reader.now)
    c.loop-end-test.true c.in_ok-weight.ensures.reads c.loop-end.invariant)

pub returns : goal.returns
returns c = lags_end c.args.from c.args.ends.now c.loop-end.end-index c.loop-end.lags.items c.loop-end.reader
    (reading (lags_to c.args.from c.args.ends.now) c.args.reader.now) c.loop-end-test.false c.loop-end.invariant
