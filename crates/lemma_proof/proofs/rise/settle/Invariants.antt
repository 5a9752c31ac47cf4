use Rattle.lemma_proof.specs.Heads.{table_rows}
use Rattle.lemma_proof.specs.Rising.{HaveRisen}
use Rattle.lemma_proof.proofs.rise.settle.Given as goal

abbrev pub invariant-loop-pass : goal.invariant-loop-pass
invariant-loop-pass l = HaveRisen (table_rows l.table) l.arcs l.back l.fn.there l.there
