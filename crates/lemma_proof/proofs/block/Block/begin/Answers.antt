use Rattle.lemma_proof.proofs.Halves.{begun_halves}
use Rattle.lemma_proof.proofs.block.Block.begin.Goals as goal

pub invariant_of-self : goal.invariant_of-self
invariant_of-self c =
    rw c.clear.ensures.items
    (begun_halves c.self.inside.more.items c.self.inside.heads c.self.inside.tails c.begin.new.self c.begin-2.new.self
    c.self.inside.settled c.self.invariant c.activity_count-rows.ensures.law.table
    c.activity_count-columns.ensures.law.table c.begin.ensures.begun c.begin-2.ensures.begun c.begin.ensures.first
    c.begin-2.ensures.first)
