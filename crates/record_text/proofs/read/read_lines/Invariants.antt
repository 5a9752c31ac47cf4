use Rattle.std.proofs.Common.{◌+◌, ◌*◌, ◌≤◌, length}
use Rattle.record_text.specs.Kinds.{head_rows, MAX_RECORD_BYTES}
use Rattle.record_text.proofs.IsDueAfter.{Reached}
use Rattle.record_text.proofs.read.read_lines.Given as goal

abbrev pub invariant-loop-due : goal.invariant-loop-due
invariant-loop-due g l = record {
  reached : Reached g.L.RecordLine.rules (head_rows g.L.RecordLine.kind l.claim) l.lines.items l.due l.line l.text l.rest;
  room : l.due + length l.rest * MAX_RECORD_BYTES ≤ MAX_RECORD_BYTES * MAX_RECORD_BYTES + 1;
  lines : length l.lines.items + length l.rest ≤ MAX_RECORD_BYTES;
}

abbrev pub decreases-loop-due : goal.decreases-loop-due
decreases-loop-due g l = length l.rest
