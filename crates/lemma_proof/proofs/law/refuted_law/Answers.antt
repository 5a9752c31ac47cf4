use Rattle.lemma_proof.proofs.Truth.{none_meets_refuted}
use Rattle.lemma_proof.proofs.Staying.{stay_refuted}
use Rattle.lemma_proof.proofs.law.refuted_law.Goals as goal

pub returns : goal.returns
returns c = record { unmet = none_meets_refuted; stay = stay_refuted }
