use Rattle.lemma_proof.specs.Lines.{KeepsDelays}
use Rattle.lemma_proof.proofs.Loops.{BeforeAre}
use Rattle.lemma_book.proofs.comparing.keeps_all_delays.Given as goal

abbrev pub invariant-loop-place : goal.invariant-loop-place
invariant-loop-place l = BeforeAre (KeepsDelays l.premises.lemmas l.other.lemmas) l.intervals l.place
