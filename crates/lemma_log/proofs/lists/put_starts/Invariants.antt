use Rattle.std.proofs.Common.{◌≡◌, ◌++◌, take}
use Rattle.std.specs.List.{flat_map}
use Rattle.lemma_log.specs.Numbers.{signed_text}
use Rattle.lemma_log.proofs.lists.put_starts.Given as goal

abbrev pub invariant-loop-start : goal.invariant-loop-start
invariant-loop-start l = l.bytes.items ≡ l.fn.bytes.items ++ flat_map signed_text (take l.start-index l.starts)
