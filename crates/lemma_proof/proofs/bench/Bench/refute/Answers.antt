use Rattle.std.proofs.Common.{sym, ◌∙◌}
use Rattle.lemma_proof.proofs.Refuting.{over_first, over_next, over_nowhere, over_dead, over_live}
use Rattle.lemma_proof.proofs.bench.Bench.refute.Goals as goal

pub loop-place-init : goal.loop-place-init
loop-place-init c = record {
  rows = c.suppose.ensures.rows;
  over = λ own m. rw c.new-used.ensures.items
      (over_first c.args.project.now c.args.lemmas.now own c.args.arcs.now c.args.lines.now c.suppose.new.self
      (c.in_ok-suppose.ensures.supposed own m));
}

pub returns-then-is_infeasible-clause-refuted : goal.returns-then-is_infeasible-clause-refuted
returns-then-is_infeasible-clause-refuted c = λ own m.
    over_dead c.args.project.now c.args.lemmas.now own c.args.arcs.now c.args.lines.now c.loop-place.place
    c.loop-place.used.items c.loop-place.self (c.are_arcs.ensures.0 c.if-not-are_arcs.false)
    (sym c.is_infeasible.ensures ∙ c.if-is_infeasible.true) (c.loop-place.invariant.over own m)

pub returns-in_default-clause-refuted : goal.returns-in_default-clause-refuted
returns-in_default-clause-refuted c = λ own m.
    let steps = rw c.in_default.is at c.in_ok-is_new.ensures.steps in
    over_nowhere c.args.project.now c.args.lemmas.now own c.args.arcs.now c.args.lines.now c.loop-place.place
    c.loop-place.used.items c.loop-place.self c.step.new.self c.index-lines-place.result c.loop-place-test.true
    c.index-lines-place.is (sym c.is_infeasible.ensures ∙ c.if-is_infeasible.false)
    (c.loop-place.invariant.over own m) steps

pub loop-place-preserved : goal.loop-place-preserved
loop-place-preserved c = record {
  rows = c.in_ok-is_new.ensures.rows ∙ c.loop-place.invariant.rows;
  over = λ own m.
      let steps = rw c.in-Some.is at c.in_ok-is_new.ensures.steps in
      rw c.in_ok-note.ensures (over_next c.args.project.now c.args.lemmas.now own c.args.arcs.now c.args.lines.now
      c.loop-place.place c.loop-place.used.items c.loop-place.self c.step.new.self c.index-lines-place.result
      c.in-Some.is_new c.loop-place-test.true c.index-lines-place.is (c.loop-place.invariant.over own m) steps);
}

pub returns-then-is_infeasible-2-clause-refuted : goal.returns-then-is_infeasible-2-clause-refuted
returns-then-is_infeasible-2-clause-refuted c = λ own m.
    over_dead c.args.project.now c.args.lemmas.now own c.args.arcs.now c.args.lines.now c.loop-place.place
    c.loop-place.used.items c.loop-place.self (c.are_arcs.ensures.0 c.if-not-are_arcs.false)
    (sym c.is_infeasible-2.ensures ∙ c.if-is_infeasible-2.true) (c.loop-place.invariant.over own m)

pub returns-clause-refuted : goal.returns-clause-refuted
returns-clause-refuted c = λ own m.
    over_live c.args.project.now c.args.lemmas.now own c.args.arcs.now c.args.lines.now c.loop-place.place
    c.loop-place.used.items c.loop-place.self c.loop-place-test.false
    (sym c.is_infeasible-2.ensures ∙ c.if-is_infeasible-2.false) (c.loop-place.invariant.over own m)
