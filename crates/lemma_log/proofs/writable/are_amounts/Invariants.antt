use Rattle.std.proofs.Common.{take}
use Rattle.std.specs.List.{AllByRecursion}
use Rattle.lemma_log.specs.Text.{IsAmount}
use Rattle.lemma_log.proofs.writable.are_amounts.Given as goal

abbrev pub invariant-loop-start : goal.invariant-loop-start
invariant-loop-start l = AllByRecursion IsAmount (take l.start-index l.starts)
