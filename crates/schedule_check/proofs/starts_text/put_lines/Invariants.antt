use Rattle.std.proofs.Common.{◌≡◌, ◌+◌, ◌≤◌, length}
use Rattle.std.specs.Str.Lines.{lines}
use Rattle.schedule_check.specs.Starts.{line_entries, first_fault, with_entries}
use Rattle.schedule_check.proofs.starts_text.put_lines.Given as goal

abbrev pub invariant-loop-bytes : goal.invariant-loop-bytes
invariant-loop-bytes l = record {
  fault : first_fault l.fn.found l.first (line_entries (lines l.text)) ≡ first_fault l.found l.line (line_entries (lines l.rest));
  table : with_entries l.fn.found (line_entries (lines l.text)) ≡ with_entries l.found (line_entries (lines l.rest));
  room : l.line + length l.rest ≤ l.first + length l.text;
}

abbrev pub decreases-loop-bytes : goal.decreases-loop-bytes
decreases-loop-bytes l = length l.rest
