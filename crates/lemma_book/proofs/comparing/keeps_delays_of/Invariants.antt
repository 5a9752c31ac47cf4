use Rattle.std.proofs.Common.{take}
use Rattle.std.specs.List.{All}
use Rattle.lemma_proof.specs.Lines.{KeepsDelays}
use Rattle.lemma_book.proofs.comparing.keeps_delays_of.Given as goal

abbrev pub invariant-loop-interval : goal.invariant-loop-interval
invariant-loop-interval l = All (λ m. KeepsDelays l.premises.lemmas l.other.lemmas m l.second) (take l.interval-index l.intervals)
