use Rattle.std.proofs.Common.{◌≡◌, ◌≤◌, ◌+◌, ◌-◌, ◌++◌, length, replicate, None}
use Rattle.lemma_proof.proofs.slots.make_slot.Given as goal

abbrev pub invariant-loop : goal.invariant-loop
invariant-loop l = record {
  count : l.count ≡ length l.fn.lemmas.items;
  made : l.lemmas.items ≡ l.fn.lemmas.items ++ replicate (l.counter - l.count) None;
  none : l.slot + 1 ≤ l.count → l.counter ≡ l.count;
}
