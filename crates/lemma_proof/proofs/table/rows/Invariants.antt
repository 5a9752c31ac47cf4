use Rattle.std.proofs.Common.{◌≡◌, map}
use Rattle.std.specs.List.{range_with_len}
use Rattle.lemma_proof.specs.Tables.{row_cells}
use Rattle.lemma_proof.proofs.table.rows.Given as goal

abbrev pub invariant-loop-a : goal.invariant-loop-a
invariant-loop-a l = map (λ cells. cells.items) l.table.items ≡ map (row_cells l.matrix) (range_with_len 0 l.a)
