use Rattle.std.proofs.Common.{◌≤ℤ◌, ◌+ℤ◌}
use Rattle.network.specs.Schedule.{start}
use Rattle.lemma_proof.specs.Heads.{table_rows}
use Rattle.lemma_proof.proofs.Passing.{rise_risen, rise_told}
use Rattle.lemma_proof.proofs.rise.rise.Goals as goal

pub returns-then-branch-clause-risen : goal.returns-then-branch-clause-risen
returns-then-branch-clause-risen c = rise_risen (table_rows c.args.table.now) c.args.arc c.args.arcs.now c.args.back.now
    c.args.there.now c.raise_by.new.there c.settle.new.there c.raise_by.ensures.risen c.settle.ensures.risen

pub returns-then-branch-clause-told : goal.returns-then-branch-clause-told
returns-then-branch-clause-told c =
    let over : (start c.args.there.now c.args.arc.from +ℤ c.args.arc.weight) ≤ℤ start c.raise_by.new.there
    c.args.arc.to = rw c.if-branch.true at c.in_ok-raise_by.ensures.raised in
    rise_told (table_rows c.args.table.now) c.args.arc c.args.arcs.now c.args.back.now c.args.there.now
    c.raise_by.new.there c.settle.new.there c.settle.result c.requires.light.to_activity over c.settle.ensures.risen
    c.settle.ensures.settled
