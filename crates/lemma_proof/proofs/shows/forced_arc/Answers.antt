use Rattle.lemma_proof.proofs.Loops.{tells_false}
use Rattle.lemma_proof.proofs.shows.forced_arc.Goals as goal

pub returns-then-is_late-clause-told : goal.returns-then-is_late-clause-told
returns-then-is_late-clause-told c = λ exact arcs m. (
  record { incompatible = c.are_incompatible.ensures.0 c.if-not-are_incompatible.false; too_late = (c.is_late.ensures exact arcs m).shown c.if-is_late.true },
  c.pair_arc.ensures.arc,
)

pub returns-else-is_late-clause-told : goal.returns-else-is_late-clause-told
returns-else-is_late-clause-told c = λ exact arcs m sure e both. tells_false (c.is_late.ensures exact arcs m) c.if-is_late.false sure both.0.too_late
