use Rattle.lemma_proof.specs.Reasons.{RunApart}
use Rattle.lemma_proof.proofs.Loops.{tells_false, pairs_more, pairs_fail, pairs_hold}
use Rattle.lemma_proof.proofs.clique.run_one_at_a_time.Goals as goal

pub returns-then-not-all_run_apart : goal.returns-then-not-all_run_apart
returns-then-not-all_run_apart c = λ exact arcs m.
    pairs_fail (RunApart c.args.project.now arcs) c.args.members.now c.loop-place.place 0 c.loop-place-test.true
    (tells_false (c.all_run_apart.ensures exact arcs m) c.if-not-all_run_apart.true)

pub loop-place-preserved : goal.loop-place-preserved
loop-place-preserved c = λ exact arcs m.
    pairs_more (RunApart c.args.project.now arcs) c.args.members.now c.loop-place.place 0 c.loop-place-test.true
    (c.loop-place.invariant exact arcs m) ((c.all_run_apart.ensures exact arcs m).shown c.if-not-all_run_apart.false)

pub returns : goal.returns
returns c = λ exact arcs m. pairs_hold (RunApart c.args.project.now arcs) c.args.members.now c.loop-place.place
    c.loop-place-test.false (c.loop-place.invariant exact arcs m)
