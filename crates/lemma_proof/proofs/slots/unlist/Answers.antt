use Rattle.std.proofs.Common.{◌∙◌}
use Rattle.lemma_proof.proofs.Listed.{not_at}
use Rattle.lemma_proof.proofs.slots.unlist.Goals as goal

pub returns : goal.returns
returns c = λ x other had. (c.remove.ensures.updates).2 x (not_at c.in-Some.ends c.args.slot x other) ∙ had
