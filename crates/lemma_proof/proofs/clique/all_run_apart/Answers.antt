use Rattle.std.proofs.lemmas.List.Elements.{All-more}
use Rattle.lemma_proof.specs.Reasons.{RunApart}
use Rattle.lemma_proof.proofs.Loops.{tells_false, some_fails, none_fails}
use Rattle.lemma_proof.proofs.clique.all_run_apart.Goals as goal

pub returns-then-not-run_apart : goal.returns-then-not-run_apart
returns-then-not-run_apart c = λ exact arcs m.
    some_fails (λ i. RunApart c.args.project.now arcs i c.args.activity) c.args.others.now c.loop-other.other-index 0
    c.loop-other-test.true (tells_false (c.run_apart.ensures exact arcs m) c.if-not-run_apart.true)

pub loop-other-preserved : goal.loop-other-preserved
loop-other-preserved c = λ exact arcs m.
    All-more (λ i. RunApart c.args.project.now arcs i c.args.activity) c.args.others.now c.loop-other.other-index 0
    c.loop-other-test.true (c.loop-other.invariant exact arcs m)
    ((c.run_apart.ensures exact arcs m).shown c.if-not-run_apart.false)

pub returns : goal.returns
returns c = λ exact arcs m. none_fails (λ i. RunApart c.args.project.now arcs i c.args.activity) c.args.others.now
    c.loop-other.other-index c.loop-other-test.false (c.loop-other.invariant exact arcs m)
