use Rattle.std.proofs.Common.{sym, ap, length}
use Rattle.network.specs.Walk.{IsMatrixOf}
use Rattle.lemma_proof.specs.Bench.{BenchOf, IsKnownOf}
use Rattle.lemma_proof.proofs.Held.{made}
use Rattle.lemma_proof.proofs.bench.Bench.make_dense.Goals as goal

pub matrix_of_all-requires-clause-full : goal.matrix_of_all-requires-clause-full
matrix_of_all-requires-clause-full c = rw c.matrix.ensures c.self.invariant.full

pub returns-clause-made : goal.returns-clause-made
returns-clause-made c = λ own m.
    let rows = ap (λ (x : BenchOf). x.rows) c.self.view_is in
    let more = ap (λ (x : BenchOf). x.more) c.self.view_is in
    let here : IsMatrixOf (length c.self.inside.matrix.rows) own c.self.inside.matrix.rows = rw rows m in
    let with = rw c.matrix.ensures at c.in_ok-dense.ensures.with in
    let known : IsKnownOf (length c.self.inside.matrix.rows) own c.self.inside.block.more c.is_none-self-inside.result
    c.self.inside.block.more c.in_ok-dense.dense =
    made (length c.self.inside.matrix.rows) own c.self.inside.block.more c.in_ok-dense.dense
    c.is_none-self-inside.result (with own here) c.is_none-self-inside.ensures in
    rw (sym rows, sym more) known
