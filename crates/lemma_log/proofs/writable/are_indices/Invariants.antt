use Rattle.std.proofs.Common.{take}
use Rattle.std.specs.List.{AllByRecursion}
use Rattle.lemma_log.specs.Text.{IsIndex}
use Rattle.lemma_log.proofs.writable.are_indices.Given as goal

abbrev pub invariant-loop-member : goal.invariant-loop-member
invariant-loop-member l = AllByRecursion IsIndex (take l.member-index l.members)
