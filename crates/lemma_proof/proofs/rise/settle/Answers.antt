use Rattle.lemma_proof.specs.Heads.{table_rows}
use Rattle.lemma_proof.proofs.Rising.{risen_none, risen_more}
use Rattle.lemma_proof.proofs.rise.settle.Goals as goal

pub loop-pass-init : goal.loop-pass-init
loop-pass-init c = risen_none (table_rows c.args.table.now) c.args.arcs.now c.args.back.now c.args.there.now c.requires.both

pub pass-requires-clause-both : goal.pass-requires-clause-both
pass-requires-clause-both c = c.loop-pass.invariant.both

pub returns-in_err-pass-clause-risen : goal.returns-in_err-pass-clause-risen
returns-in_err-pass-clause-risen c = risen_more (table_rows c.args.table.now) c.args.arcs.now c.args.back.now
    c.args.there.now c.loop-pass.there c.pass.new.there c.loop-pass.invariant c.pass.ensures.risen

pub returns-then-not-branch-clause-risen : goal.returns-then-not-branch-clause-risen
returns-then-not-branch-clause-risen c =
    risen_more (table_rows c.args.table.now) c.args.arcs.now c.args.back.now c.args.there.now c.loop-pass.there
    c.pass.new.there c.loop-pass.invariant c.pass.ensures.risen

pub loop-pass-preserved : goal.loop-pass-preserved
loop-pass-preserved c = risen_more (table_rows c.args.table.now) c.args.arcs.now c.args.back.now c.args.there.now
    c.loop-pass.there c.pass.new.there c.loop-pass.invariant c.pass.ensures.risen

pub returns-clause-risen : goal.returns-clause-risen
returns-clause-risen c = c.loop-pass.invariant
