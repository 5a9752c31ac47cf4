use Rattle.std.proofs.Common.{refl, ◌+◌, ◌∙◌, subst, ◌++◌, pos, List, length, take, get_or}
use Rattle.std.proofs.lemmas.List.{take_all}
use Rattle.network.specs.declared.parts.Lag.{Lag}
use Rattle.network.specs.Walk.{IsMatrixOf, HasPositiveCycle}
use Rattle.longest_path.specs.Matrix.{IsFull}
use Rattle.longest_path.proofs.Full.{full_over}
use Rattle.lemma_proof.proofs.Existing.{cycle_part, full_more, taken_more, taken_part}
use Rattle.lemma_proof.proofs.block_dense.matrix_with.Goals as goal

pub take-requires-clause-fills : goal.take-requires-clause-fills
take-requires-clause-fills c =
    let law = c.activity_count.ensures.law in
    let here : IsMatrixOf (length c.args.matrix.now) (law.arcs ++ take c.loop-arc.arc-index c.args.arcs.now)
    c.loop-arc.with.rows = c.loop-arc.invariant.so_far law.arcs law.matrix in
    let full : IsFull c.loop-arc.with.rows =
    full_more (length c.args.matrix.now) law.arcs (take c.loop-arc.arc-index c.args.arcs.now) c.args.matrix.now
    c.loop-arc.with.rows refl c.loop-arc.invariant.long law.matrix c.requires.full here in
    let d : Lag = record { from = 0; to = 0; weight = pos 0 } in
    let light = c.requires.arcs c.loop-arc.arc-index d c.loop-arc-test.true in
    record {
      light = light.light;
      full = full_over
          (get_or c.args.arcs.now c.loop-arc.arc-index (record { from = 0; to = 0; weight = pos 0 })) c.loop-arc.with.rows
          full;
    }

pub returns-then-branch : goal.returns-then-branch
returns-then-branch c = λ own m.
    let d : Lag = record { from = 0; to = 0; weight = pos 0 } in
    let i = c.loop-arc.arc-index in
    let closes = (rw c.if-branch.true at c.in_ok-take.ensures.taken).0 in
    let here : IsMatrixOf (length c.loop-arc.with.rows) (own ++ take c.loop-arc.arc-index c.args.arcs.now)
    c.loop-arc.with.rows = rw c.loop-arc.invariant.long (c.loop-arc.invariant.so_far own m) in
    let found = closes (own ++ take i c.args.arcs.now) here in
    let cycle : HasPositiveCycle (own ++ take (c.loop-arc.arc-index + 1) c.args.arcs.now) =
    subst HasPositiveCycle (taken_more own c.args.arcs.now i d c.loop-arc-test.true)
    ((get_or c.args.arcs.now i d).from, found.0, found.1) in
    cycle_part (own ++ take (i + 1) c.args.arcs.now) (own ++ c.args.arcs.now) (taken_part own c.args.arcs.now (i + 1)) cycle

pub loop-arc-preserved : goal.loop-arc-preserved
loop-arc-preserved c =
    let d : Lag = record { from = 0; to = 0; weight = pos 0 } in
    let i = c.loop-arc.arc-index in
    let adds = (rw c.if-branch.false at c.in_ok-take.ensures.taken).0 in
    record {
      long = c.take.ensures.size ∙ c.loop-arc.invariant.long;
      so_far = λ own m.
          let here : IsMatrixOf (length c.loop-arc.with.rows) (own ++ take c.loop-arc.arc-index c.args.arcs.now)
          c.loop-arc.with.rows = rw c.loop-arc.invariant.long (c.loop-arc.invariant.so_far own m) in
          let more = adds (own ++ take i c.args.arcs.now) here in
          let next = rw c.loop-arc.invariant.long at more in
          subst (λ (arcs : List Lag). IsMatrixOf (length c.args.matrix.now) arcs c.take.new.matrix.rows)
          (taken_more own c.args.arcs.now i d c.loop-arc-test.true) next;
    }

pub returns : goal.returns
returns c = λ own m. rw (take_all c.loop-arc.arc-index c.args.arcs.now c.loop-arc-test.false) at (c.loop-arc.invariant.so_far own m)
