use Rattle.std.proofs.Common.{sym, ap, ◌∙◌, take, pos}
use Rattle.std.proofs.lemmas.List.{take_all, take_more}
use Rattle.network.specs.declared.parts.Lag.{Lag}
use Rattle.lemma_proof.proofs.Existing.{taken_part}
use Rattle.lemma_proof.specs.Bench.{BenchOf}
use Rattle.lemma_proof.proofs.Held.{held_begun, held_dead}
use Rattle.lemma_proof.proofs.bench.Bench.suppose.Goals as goal

abbrev zero_arc : Lag
zero_arc = record { from = 0; to = 0; weight = pos 0 }

pub loop-arc-init : goal.loop-arc-init
loop-arc-init c = record {
  rows = c.begin.ensures.rows;
  so_far = λ own m. held_begun own c.begin.new.self (rw c.begin.ensures.rows m) c.begin.ensures.live c.begin.ensures.dense c.begin.ensures.more;
}

pub loop-arc-preserved : goal.loop-arc-preserved
loop-arc-preserved c = record {
  rows = c.in_ok-add.ensures.rows ∙ c.loop-arc.invariant.rows;
  so_far = λ own m. rw (take_more c.args.arcs.now c.loop-arc.arc-index zero_arc c.loop-arc-test.true)
      (c.in_ok-add.ensures.added own (take c.loop-arc.arc-index c.args.arcs.now) (c.loop-arc.invariant.so_far own m));
}

pub returns-then-self-clause-rows : goal.returns-then-self-clause-rows
returns-then-self-clause-rows c = c.loop-arc.invariant.rows

pub returns-then-self-clause-supposed : goal.returns-then-self-clause-supposed
returns-then-self-clause-supposed c = λ own m.
    held_dead own (take c.loop-arc.arc-index c.args.arcs.now) c.args.arcs.now c.loop-arc.self
    (sym (ap (λ (x : BenchOf). x.is_infeasible) c.self.view_is) ∙ c.if-self.true)
    (taken_part own c.args.arcs.now c.loop-arc.arc-index) (c.loop-arc.invariant.so_far own m)

pub returns-clause-rows : goal.returns-clause-rows
returns-clause-rows c = c.loop-arc.invariant.rows

pub returns-clause-supposed : goal.returns-clause-supposed
returns-clause-supposed c = λ own m. rw (sym (take_all c.loop-arc.arc-index c.args.arcs.now c.loop-arc-test.false)) (c.loop-arc.invariant.so_far own m)
