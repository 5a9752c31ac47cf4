use Rattle.std.proofs.lemmas.Int.{to_z-of_z}
use Rattle.std.proofs.Common.{rules, ◌+◌, SFits, w64}
use Rattle.std.proofs.lemmas.Result.{err_from_is_err_and}
use Rattle.std.proofs.lemmas.List.{map_push}
use Rattle.sch_reader.specs.Layout.{request_rows, Requests, requests_of}
use Rattle.sch_reader.specs.Reading.{reading}
use Rattle.sch_reader.proofs.Readings.{requests_turn, requests_fail, requests_end}
use Rattle.sch_reader.proofs.text.request_rows.Goals as goal

pub returns-in_err-duration : goal.returns-in_err-duration
returns-in_err-duration c =
    let p = err_from_is_err_and c.from_residual-in_err-duration.result c.from_residual-in_err-duration.ensures.1 in
    let so_far : Requests = requests_of (c.loop-id.durations, c.loop-id.demands) in
    rw (p.1, p.2) (λ h. requests_fail (c.args.activities + 2) (c.args.activities + 1) c.args.resources c.loop-id.id
    so_far c.loop-id.reader c.in_err-duration.field-0.0
    (reading (request_rows (c.args.activities + 2) (c.args.activities + 1) c.args.resources 0) c.args.reader.now)
    c.loop-id-test.true (c.in_err-duration.ensures h) c.loop-id.invariant)

pub loop-id-preserved : goal.loop-id-preserved
loop-id-preserved c =
    let so_far : Requests = requests_of (c.loop-id.durations, c.loop-id.demands) in
    let fits : SFits w64 c.in_ok-duration.duration = search rules in
    rw (c.in_ok-push.ensures.items, c.in_ok-push-2.ensures.items, map_push, to_z-of_z)
    (requests_turn (c.args.activities + 2) (c.args.activities + 1) c.args.resources c.loop-id.id so_far
    c.loop-id.reader c.request_row.new.reader (c.in_ok-duration.duration, c.in_ok-duration.row.items)
    (reading (request_rows (c.args.activities + 2) (c.args.activities + 1) c.args.resources 0) c.args.reader.now)
    c.loop-id-test.true c.in_ok-duration.ensures c.loop-id.invariant)

pub returns : goal.returns
returns c =
    let so_far : Requests = requests_of (c.loop-id.durations, c.loop-id.demands) in
    requests_end (c.args.activities + 2) (c.args.activities + 1) c.args.resources c.loop-id.id so_far c.loop-id.reader
    (reading (request_rows (c.args.activities + 2) (c.args.activities + 1) c.args.resources 0) c.args.reader.now)
    c.loop-id-test.false c.loop-id.invariant
