use Rattle.std.proofs.Common.{◌≡◌, ◌-◌, ◌+◌}
use Rattle.sch_reader.specs.Layout.{request_rows, requests_of}
use Rattle.sch_reader.specs.Reading.{reading}
use Rattle.sch_reader.proofs.Readings.{requests_so_far}
use Rattle.sch_reader.proofs.text.request_rows.Given as goal

abbrev pub invariant-loop-id : goal.invariant-loop-id
invariant-loop-id l = requests_so_far (requests_of (l.durations, l.demands)) (l.activities + 2 - l.id)
    (l.activities + 1) l.resources l.id l.reader ≡ reading
    (request_rows (l.activities + 2) (l.activities + 1) l.resources 0) l.fn.reader
