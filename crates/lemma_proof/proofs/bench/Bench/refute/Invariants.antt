use Rattle.std.proofs.Common.{◌≡◌, List, length}
use Rattle.network.specs.declared.parts.Lag.{Lag}
use Rattle.network.specs.Walk.{IsMatrixOf}
use Rattle.lemma_proof.proofs.Refuting.{IsOver}
use Rattle.lemma_proof.proofs.bench.Bench.refute.Given as goal

-- what the lines so far have added is on the bench
abbrev pub invariant-loop-place : goal.invariant-loop-place
invariant-loop-place l = record {
  rows : l.self.rows ≡ l.fn.self.rows;
  over : (own : List Lag) → IsMatrixOf (length l.fn.self.rows) own l.fn.self.rows → IsOver l.project l.lemmas own l.arcs l.lines l.place l.used.items l.self;
}
