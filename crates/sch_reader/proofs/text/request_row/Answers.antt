use Rattle.std.proofs.Common.{refl, rules, SFits, w64}
use Rattle.std.proofs.lemmas.Int.{to_z-of_z}
use Rattle.sch_reader.specs.Layout.{request_row}
use Rattle.sch_reader.proofs.Readings.{reading_bind}
use Rattle.sch_reader.proofs.text.request_row.Goals as goal

pub returns : goal.returns
unfolding request_row
returns c =
    let fits : SFits w64 c.in_ok-duration.duration = search rules in
    let row = c.in_ok-number.ensures.reads in
    let mode = c.in_ok-number-2.ensures.reads in
    let place = c.amount_place-place.ensures in
    let duration = c.in_ok-duration.ensures.reads in
    let demands = c.in_ok-demands.ensures in
    rw (to_z-of_z, row, mode, rw place at duration, reading_bind, rw place at demands) refl
