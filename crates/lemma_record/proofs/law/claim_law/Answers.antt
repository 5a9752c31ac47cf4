use Rattle.lemma_record.proofs.SoFar.{so_far_is_true}
use Rattle.lemma_record.proofs.Sound.{claim_is_true}
use Rattle.lemma_record.proofs.law.claim_law.Goals as goal

pub returns-clause-claim : goal.returns-clause-claim
returns-clause-claim c = claim_is_true

pub returns-clause-so_far : goal.returns-clause-so_far
returns-clause-so_far c = so_far_is_true
