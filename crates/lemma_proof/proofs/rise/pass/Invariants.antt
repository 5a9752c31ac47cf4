use Rattle.lemma_proof.specs.Heads.{table_rows}
use Rattle.lemma_proof.proofs.Passing.{IsPassing}
use Rattle.lemma_proof.proofs.rise.pass.Given as goal

abbrev pub invariant-loop-arc : goal.invariant-loop-arc
invariant-loop-arc l = IsPassing (table_rows l.table) l.arcs l.back l.fn.there l.there l.raised l.arc-index
