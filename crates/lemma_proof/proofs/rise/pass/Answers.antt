use Rattle.std.proofs.Common.{◌∷◌, [], pos, get_or}
use Rattle.std.proofs.lemmas.List.Elements.{Contains-get_or}
use Rattle.network.specs.declared.parts.Lag.{Lag}
use Rattle.lemma_proof.specs.Heads.{table_rows}
use Rattle.lemma_proof.proofs.Rising.{risen_more, risen_part}
use Rattle.lemma_proof.proofs.Passing.{among_one, passing_first, passing_raised, passing_met, passing_told, late_part}
use Rattle.lemma_proof.proofs.rise.pass.Goals as goal
use Rattle.lemma_proof.proofs.rise.pass.Goals.{then-branch, else-branch}

abbrev zero_arc : Lag
zero_arc = record { from = 0; to = 0; weight = pos 0 }

pub loop-arc-init : goal.loop-arc-init
loop-arc-init c = passing_first (table_rows c.args.table.now) c.args.arcs.now c.args.back.now c.args.there.now c.requires.both

pub raise_by-requires-clause-both : goal.raise_by-requires-clause-both
raise_by-requires-clause-both c = c.loop-arc.invariant.risen.both

pub returns-in_err-raise_by-clause-risen : goal.returns-in_err-raise_by-clause-risen
returns-in_err-raise_by-clause-risen c =
    let e : Lag = get_or c.args.arcs.now c.loop-arc.arc-index zero_arc in
    let there = Contains-get_or c.args.arcs.now c.loop-arc.arc-index zero_arc c.loop-arc-test.true in
    risen_more (table_rows c.args.table.now) c.args.arcs.now c.args.back.now c.args.there.now c.loop-arc.there c.raise_by.new.there c.loop-arc.invariant.risen
    (risen_part (table_rows c.args.table.now) (get_or c.args.arcs.now c.loop-arc.arc-index zero_arc ∷ [])
    c.args.arcs.now c.args.back.now c.loop-arc.there c.raise_by.new.there (among_one c.args.arcs.now e there)
    c.raise_by.ensures.risen)

pub returns-in_err-raise_by-clause-passed : goal.returns-in_err-raise_by-clause-passed
returns-in_err-raise_by-clause-passed c =
    let e : Lag = get_or c.args.arcs.now c.loop-arc.arc-index zero_arc in
    let there = Contains-get_or c.args.arcs.now c.loop-arc.arc-index zero_arc c.loop-arc-test.true in
    rw c.from_residual.ensures (late_part (get_or c.args.arcs.now c.loop-arc.arc-index zero_arc ∷ []) c.args.arcs.now
    c.raise_by.new.there c.args.back.now (among_one c.args.arcs.now e there) c.in_err-raise_by.ensures.raised)

pub loop-arc-preserved : goal.loop-arc-preserved
loop-arc-preserved c =
    let e : Lag = get_or c.args.arcs.now c.loop-arc.arc-index zero_arc in
    let there = Contains-get_or c.args.arcs.now c.loop-arc.arc-index zero_arc c.loop-arc-test.true in
    elim c.if-branch.branch [
      | then-branch w ↦ passing_raised (table_rows c.args.table.now) c.args.arcs.now c.args.back.now c.args.there.now
          c.loop-arc.there c.raise_by.new.there c.loop-arc.raised c.if-branch.raised c.loop-arc.arc-index e
          c.loop-arc.invariant there c.raise_by.ensures.risen w.raised-is
      | else-branch w ↦
          let met = rw w.if-branch.false at c.in_ok-raise_by.ensures.raised in
          passing_met (table_rows c.args.table.now) c.args.arcs.now c.args.back.now c.args.there.now c.loop-arc.there
          c.raise_by.new.there c.loop-arc.raised c.if-branch.raised c.loop-arc.arc-index zero_arc
          c.loop-arc.invariant c.loop-arc-test.true met.0 met.1 w.raised-is
    ]

pub returns-clause-risen : goal.returns-clause-risen
returns-clause-risen c = c.loop-arc.invariant.risen

pub returns-clause-passed : goal.returns-clause-passed
returns-clause-passed c = passing_told (table_rows c.args.table.now) c.args.arcs.now c.args.back.now c.args.there.now
    c.loop-arc.there c.loop-arc.raised c.loop-arc.arc-index c.loop-arc.invariant c.loop-arc-test.false
