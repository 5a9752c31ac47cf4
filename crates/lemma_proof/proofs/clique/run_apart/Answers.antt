use Rattle.std.proofs.Common.{inl, inr}
use Rattle.lemma_proof.specs.Reasons.{RunApart}
use Rattle.std.proofs.lemmas.Bool.{iff_false}
use Rattle.lemma_proof.proofs.Loops.{tells_false, granted, third_decides}
use Rattle.lemma_proof.proofs.clique.run_apart.Goals as goal

pub returns : goal.returns
returns c = λ exact arcs m. third_decides (λ _. iff_false c.are_incompatible.ensures c.if-are_incompatible.false)
    (tells_false (c.starts_after_end.ensures exact arcs m) c.if-starts_after_end.false)
    (c.starts_after_end-2.ensures exact arcs m)

pub returns-then-starts_after_end : goal.returns-then-starts_after_end
returns-then-starts_after_end c = λ exact arcs m.
    granted (RunApart c.args.project.now arcs c.args.one c.args.other)
    (inr (inl ((c.starts_after_end.ensures exact arcs m).shown c.if-starts_after_end.true)))
