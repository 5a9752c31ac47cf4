use Rattle.std.proofs.Common.{subst}
use Rattle.lemma_proof.specs.Block.{IsBlock}
use Rattle.lemma_proof.proofs.Halves.{is_block}
use Rattle.lemma_proof.proofs.block.Block.activity_count.Goals as goal

pub returns-clause-law : goal.returns-clause-law
returns-clause-law c = subst IsBlock c.self.view_is
    (is_block c.self.inside.more.items c.self.inside.heads c.self.inside.tails c.self.inside.settled c.self.invariant
    c.activity_count.ensures.law.table c.activity_count-columns.ensures.law.table)
