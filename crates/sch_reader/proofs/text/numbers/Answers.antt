use Rattle.std.proofs.lemmas.Int.{to_z-of_z}
use Rattle.std.proofs.Common.{rules, SFits, w64}
use Rattle.std.proofs.lemmas.Result.{err_from_is_err_and}
use Rattle.sch_reader.specs.Layout.{row_of}
use Rattle.sch_reader.specs.Reading.{reading}
use Rattle.sch_reader.proofs.Readings.{row_turn, row_fails, row_ends}
use Rattle.sch_reader.proofs.text.numbers.Goals as goal

pub returns-in_err-number : goal.returns-in_err-number
returns-in_err-number c =
    let p = err_from_is_err_and c.from_residual-in_err-number.result c.from_residual-in_err-number.ensures.1 in
    rw (p.1, p.2) (λ h. row_fails c.args.place c.args.count c.loop.counter c.loop.numbers.items c.loop.reader
    c.in_err-number.field-0.0 (reading (row_of c.args.count c.args.place) c.args.reader.now) c.loop-test.true
    (c.in_err-number.ensures.reads h) c.loop.invariant)

pub loop-preserved : goal.loop-preserved
loop-preserved c =
    let fits : SFits w64 c.in_ok-number.number = search rules in
    rw (c.in_ok-push.ensures.items, to_z-of_z)
    (row_turn c.args.place c.args.count c.loop.counter c.loop.numbers.items c.loop.reader c.number.new.self
    c.in_ok-number.number (reading (row_of c.args.count c.args.place) c.args.reader.now) c.loop-test.true
    c.in_ok-number.ensures.reads c.loop.invariant)

pub returns : goal.returns
returns c = row_ends c.args.place c.args.count c.loop.counter c.loop.numbers.items c.loop.reader
    (reading (row_of c.args.count c.args.place) c.args.reader.now) c.loop-test.false c.loop.invariant
