use Rattle.std.proofs.Common.{◌≡◌, drop}
use Rattle.search_record.proofs.Steps.{Reached}
use Rattle.search_record.proofs.lines.check_lines.Given as goal

-- the lines so far are right, and the nodes of the others are due
abbrev pub invariant-loop-index : goal.invariant-loop-index
invariant-loop-index l = record {
  project : l.due.project ≡ l.project;
  reached : Reached l.project l.limit l.lines l.due.nodes (drop l.index l.lines) l.index;
}
