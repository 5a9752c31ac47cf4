use Rattle.std.proofs.Common.{◌≡◌, List, length, take}
use Rattle.network.specs.declared.parts.Lag.{Lag}
use Rattle.network.specs.Walk.{IsMatrixOf}
use Rattle.lemma_proof.specs.Bench.{Holds}
use Rattle.lemma_proof.proofs.bench.Bench.suppose.Given as goal

abbrev pub invariant-loop-arc : goal.invariant-loop-arc
invariant-loop-arc l = record {
  rows : l.self.rows ≡ l.fn.self.rows;
  so_far : (own : List Lag) → IsMatrixOf (length l.fn.self.rows) own l.fn.self.rows → Holds own (take l.arc-index l.arcs) l.self;
}
