use Rattle.std.proofs.Common.{◌≡◌, ◌++◌, take}
use Rattle.std.specs.List.{flat_map}
use Rattle.lemma_log.specs.Text.{arc_text}
use Rattle.lemma_log.proofs.lists.put_arcs.Given as goal

abbrev pub invariant-loop-arc : goal.invariant-loop-arc
invariant-loop-arc l = l.bytes.items ≡ l.fn.bytes.items ++ flat_map arc_text (take l.arc-index l.arcs)
