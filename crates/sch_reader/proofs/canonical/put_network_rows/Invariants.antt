use Rattle.std.proofs.Common.{◌≡◌, ◌++◌, map, string_bytes}
use Rattle.std.specs.List.{flat_map, range_with_len}
use Rattle.sch_reader.specs.Text.{line, network_row}
use Rattle.sch_reader.proofs.NetworkRows.{AreFrom}
use Rattle.sch_reader.proofs.canonical.put_network_rows.Given as goal

abbrev pub invariant-loop-activity : goal.invariant-loop-activity
invariant-loop-activity l = record {
  written : string_bytes l.out ≡ string_bytes l.fn.out ++ flat_map line (map (network_row l.project) (range_with_len 0 l.activity));
  left : AreFrom l.activity l.rest l.project.lags;
}
