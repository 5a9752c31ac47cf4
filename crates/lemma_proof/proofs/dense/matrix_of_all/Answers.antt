use Rattle.std.proofs.Common.{sym, IfSome, Option, length}
use Rattle.std.specs.List.{All, Contains}
use Rattle.std.proofs.lemmas.Result.{IfOk-weaker}
use Rattle.std.proofs.lemmas.List.Elements.{All-weaker, All-contains_itself}
use Rattle.longest_path.specs.Saved.{Marked}
use Rattle.lemma_proof.specs.Heads.{IsLight}
use Rattle.lemma_proof.specs.Block.{IsMatrixWith}
use Rattle.lemma_proof.specs.Bench.{IsWide}
use Rattle.lemma_proof.proofs.Wide.{wide_with}
use Rattle.lemma_proof.proofs.dense.matrix_of_all.Goals as goal

pub matrix_with-requires-clause-arcs : goal.matrix_with-requires-clause-arcs
matrix_with-requires-clause-arcs c =
    let more = c.args.block.now.more in
    let light : All (IsLight (length c.args.block.now.rows)) c.args.block.now.more =
    All-weaker (Contains more) (IsLight (length c.args.block.now.rows))
    (λ e there. c.activity_count-2.ensures.law.light e there) more (All-contains_itself more) in
    rw (c.more.ensures, sym c.requires.same) light

pub returns-clause-wide : goal.returns-clause-wide
returns-clause-wide c =
    IfOk-weaker c.matrix_with.result (IsMatrixWith c.args.matrix.now c.args.block.now.more)
    (λ (found : Option Marked). IfSome found (IsWide (length c.args.matrix.now)))
    (λ found with. wide_with c.args.matrix.now c.args.block.now.more found c.activity_count.ensures.law c.requires.full with)
    (rw c.more.ensures at c.matrix_with.ensures)
