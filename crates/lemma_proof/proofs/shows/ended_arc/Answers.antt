use Rattle.std.proofs.Common.{refl}
use Rattle.lemma_proof.proofs.Loops.{tells_false}
use Rattle.lemma_proof.proofs.shows.ended_arc.Goals as goal

pub returns-then-is_overload-clause-told : goal.returns-then-is_overload-clause-told
returns-then-is_overload-clause-told c = λ exact arcs m. ((c.is_overload.ensures exact arcs m).shown c.if-is_overload.true, refl)

pub returns-else-is_overload-clause-told : goal.returns-else-is_overload-clause-told
returns-else-is_overload-clause-told c = λ exact arcs m sure e both. tells_false (c.is_overload.ensures exact arcs m) c.if-is_overload.false sure both.0
