use Rattle.std.proofs.Common.{sym}
use Rattle.lemma_proof.proofs.Halves.{tried_halves, tried_ends}
use Rattle.lemma_proof.proofs.block.Block.try_arc.Goals as goal

pub invariant_of-self : goal.invariant_of-self
invariant_of-self c = tried_halves c.self.inside.more.items c.self.inside.heads c.self.inside.tails c.try_both.new.heads
    c.try_both.new.tails c.args.arc c.self.inside.settled c.self.invariant c.try_both.ensures

pub returns-clause-tried : goal.returns-clause-tried
returns-clause-tried c =
    rw (sym c.self.view_is)
    (tried_ends c.self.inside.more.items c.self.inside.heads c.self.inside.tails c.try_both.new.heads
    c.try_both.new.tails c.args.arc c.self.inside.settled c.activity_count-columns.ensures.law.table
    c.self.invariant c.try_both.ensures)
