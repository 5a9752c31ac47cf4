use Rattle.std.proofs.Common.{◌≡◌, ◌++◌, take}
use Rattle.std.specs.List.{flat_map}
use Rattle.lemma_log.specs.Numbers.{number_text}
use Rattle.lemma_log.proofs.members.put_members.Given as goal

abbrev pub invariant-loop-member : goal.invariant-loop-member
invariant-loop-member l = l.bytes.items ≡ l.fn.bytes.items ++ flat_map number_text (take l.member-index l.members)
