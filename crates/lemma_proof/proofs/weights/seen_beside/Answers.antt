use Rattle.lemma_proof.proofs.KnownWalks.{beside_more, beside_over}
use Rattle.lemma_proof.proofs.weights.seen_beside.Goals as goal

pub returns : goal.returns
returns c = λ yes. beside_more c.args.tried c.args.block.now _ c.args.arc (c.implies_by_one.ensures yes)

pub returns-then-implies_over : goal.returns-then-implies_over
returns-then-implies_over c = λ _. rw c.in-Some.is (beside_over c.in-Some.over c.args.block.now _ c.args.arc (c.implies_over.ensures c.if-implies_over.true))
