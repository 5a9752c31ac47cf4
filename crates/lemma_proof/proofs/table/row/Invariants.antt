use Rattle.std.proofs.Common.{◌≡◌, map}
use Rattle.std.specs.List.{range_with_len}
use Rattle.lemma_proof.specs.Tables.{cell}
use Rattle.lemma_proof.proofs.table.row.Given as goal

abbrev pub invariant-loop-b : goal.invariant-loop-b
invariant-loop-b l = l.cells.items ≡ map (λ b. cell l.matrix l.a b) (range_with_len 0 l.b)
