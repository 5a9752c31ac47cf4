use Rattle.std.proofs.Common.{take}
use Rattle.std.specs.List.{AllByRecursion}
use Rattle.lemma_log.specs.Text.{IsWritableLine}
use Rattle.lemma_log.proofs.writable.are_writable_lines.Given as goal

abbrev pub invariant-loop-line : goal.invariant-loop-line
invariant-loop-line l = AllByRecursion IsWritableLine (take l.line-index l.lines)
