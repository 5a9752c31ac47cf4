use Rattle.std.proofs.Common.{◌≡◌, ◌++◌, map, string_bytes}
use Rattle.std.specs.List.{flat_map, range_with_len}
use Rattle.sch_reader.specs.Text.{line, request_row}
use Rattle.sch_reader.proofs.canonical.put_request_rows.Given as goal

abbrev pub invariant-loop-activity : goal.invariant-loop-activity
invariant-loop-activity l = string_bytes l.out ≡ string_bytes l.fn.out ++ flat_map line (map (request_row l.project) (range_with_len 0 l.activity))
