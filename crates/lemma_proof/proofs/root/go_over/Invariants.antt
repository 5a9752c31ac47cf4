use Rattle.lemma_proof.specs.Heads.{cells_of}
use Rattle.lemma_proof.proofs.Rooting.{ArePartlyOver}
use Rattle.lemma_proof.proofs.root.go_over.Given as goal

abbrev pub invariant-loop-a : goal.invariant-loop-a
invariant-loop-a l = ArePartlyOver l.arc l.via l.a (cells_of l.fn.table) (cells_of l.table)
