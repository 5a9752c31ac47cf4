use Rattle.std.proofs.Common.{◌≡◌, take}
use Rattle.lemma_book.specs.Premises.{with_roots}
use Rattle.lemma_book.proofs.premises.Premises.add_roots.Given as goal

abbrev pub invariant-loop-arc : goal.invariant-loop-arc
invariant-loop-arc l = l.self ≡ with_roots l.fn.self (take l.arc-index l.arcs)
