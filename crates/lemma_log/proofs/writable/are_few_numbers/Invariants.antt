use Rattle.std.proofs.Common.{◌≡◌, ◌+◌, take}
use Rattle.std.specs.List.{sum_by}
use Rattle.lemma_log.specs.Text.{line_numbers}
use Rattle.lemma_log.proofs.writable.are_few_numbers.Given as goal

abbrev pub invariant-loop-line : goal.invariant-loop-line
invariant-loop-line l = l.left + sum_by line_numbers (take l.line-index l.lines) ≡ 50000
