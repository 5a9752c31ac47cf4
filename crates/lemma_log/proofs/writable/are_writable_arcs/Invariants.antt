use Rattle.std.proofs.Common.{take}
use Rattle.std.specs.List.{AllByRecursion}
use Rattle.lemma_log.specs.Text.{IsWritableArc}
use Rattle.lemma_log.proofs.writable.are_writable_arcs.Given as goal

abbrev pub invariant-loop-arc : goal.invariant-loop-arc
invariant-loop-arc l = AllByRecursion IsWritableArc (take l.arc-index l.arcs)
