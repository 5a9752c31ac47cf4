use Rattle.std.proofs.Common.{◌≡◌, ◌++◌, take, string_bytes}
use Rattle.std.specs.List.{flat_map}
use Rattle.record_text.specs.Kinds.{ended}
use Rattle.record_text.proofs.record.put_lines.Given as goal

abbrev pub invariant-loop-line : goal.invariant-loop-line
invariant-loop-line g l = string_bytes l.out ≡ string_bytes l.fn.out ++ flat_map (λ line. ended (g.L.RecordLine.kind.row_of line)) (take l.line-index l.lines)
