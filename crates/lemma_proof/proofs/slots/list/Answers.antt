use Rattle.lemma_proof.proofs.Listed.{still_added}
use Rattle.lemma_proof.proofs.slots.list.Goals as goal

pub returns-clause-kept : goal.returns-clause-kept
returns-clause-kept c = λ x had. still_added _ _ _ ((c.in_ok-insert.ensures.updates).0 x) had
