use Rattle.std.proofs.Common.{◌≡◌, ◌++◌, List, length, take}
use Rattle.network.specs.declared.parts.Lag.{Lag}
use Rattle.network.specs.Walk.{IsMatrixOf}
use Rattle.lemma_proof.proofs.block_dense.matrix_with.Given as goal

-- the matrix of the arcs so far
abbrev pub invariant-loop-arc : goal.invariant-loop-arc
invariant-loop-arc l = record {
  long : length l.with.rows ≡ length l.fn.matrix;
  so_far : (own : List Lag) → IsMatrixOf (length l.fn.matrix) own l.fn.matrix → IsMatrixOf (length l.fn.matrix) (own ++ take l.arc-index l.arcs) l.with.rows;
}
