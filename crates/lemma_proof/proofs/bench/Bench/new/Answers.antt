use Rattle.lemma_proof.proofs.bench.Bench.new.Goals as goal

pub new-requires-clause-full : goal.new-requires-clause-full
new-requires-clause-full c = rw c.matrix-2.ensures c.requires.full
