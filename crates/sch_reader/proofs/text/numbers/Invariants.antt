use Rattle.std.proofs.Common.{◌≡◌, ◌-◌}
use Rattle.sch_reader.specs.Layout.{row_of}
use Rattle.sch_reader.specs.Reading.{reading}
use Rattle.sch_reader.proofs.Readings.{numbers_so_far}
use Rattle.sch_reader.proofs.text.numbers.Given as goal

abbrev pub invariant-loop : goal.invariant-loop
invariant-loop l = numbers_so_far l.numbers.items (l.count - l.counter) l.place l.reader ≡ reading (row_of l.count l.place) l.fn.reader
