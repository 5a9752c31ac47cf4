use Rattle.std.proofs.Common.{take}
use Rattle.lemma_proof.specs.Lines.{HaveUsed}
use Rattle.lemma_book.proofs.premises.Premises.have_used.Given as goal

abbrev pub invariant-loop-line : goal.invariant-loop-line
invariant-loop-line l = HaveUsed l.self.lemmas l.other.lemmas (take l.line-index l.lines)
