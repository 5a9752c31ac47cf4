use Rattle.std.proofs.Common.{Bool, length}
use Rattle.lemma_proof.specs.Block.{IsInserted}
use Rattle.lemma_proof.specs.Bench.{IsWide}
use Rattle.lemma_proof.proofs.Wide.{fills_wide, on_ok, wide_taken}
use Rattle.lemma_proof.proofs.dense.take_arc.Goals as goal

pub take-requires-clause-fills : goal.take-requires-clause-fills
take-requires-clause-fills c = fills_wide c.args.arc c.args.dense.now c.requires.wide.full c.requires.light

pub returns-clause-wide : goal.returns-clause-wide
returns-clause-wide c =
    on_ok c.take.result (λ (closes : Bool). IsInserted c.args.arc c.args.dense.now c.take.new.matrix closes)
    (IsWide (length c.args.dense.now.rows) c.take.new.matrix)
    (λ closes taken. wide_taken c.args.arc c.args.dense.now c.take.new.matrix closes
    (rw c.matrix.ensures at c.activity_count.ensures.law) c.requires.wide.full taken)
    c.take.ensures.taken
