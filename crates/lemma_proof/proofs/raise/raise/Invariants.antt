use Rattle.lemma_proof.proofs.Raising.{IsPartlyRaised}
use Rattle.lemma_proof.proofs.raise.raise.Given as goal

abbrev pub invariant-loop-k : goal.invariant-loop-k
invariant-loop-k l = IsPartlyRaised l.k l.by l.via l.fn.row l.row
