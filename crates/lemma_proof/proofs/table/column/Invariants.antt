use Rattle.std.proofs.Common.{◌≡◌, map}
use Rattle.std.specs.List.{range_with_len}
use Rattle.lemma_proof.specs.Tables.{cell}
use Rattle.lemma_proof.proofs.table.column.Given as goal

abbrev pub invariant-loop-a : goal.invariant-loop-a
invariant-loop-a l = l.cells.items ≡ map (λ a. cell l.matrix a l.b) (range_with_len 0 l.a)
