use Rattle.std.proofs.Common.{◌≡◌, map}
use Rattle.std.specs.List.{range_with_len}
use Rattle.lemma_proof.specs.Tables.{column_cells}
use Rattle.lemma_proof.proofs.table.columns.Given as goal

abbrev pub invariant-loop-b : goal.invariant-loop-b
invariant-loop-b l = map (λ cells. cells.items) l.table.items ≡ map (column_cells l.matrix) (range_with_len 0 l.b)
