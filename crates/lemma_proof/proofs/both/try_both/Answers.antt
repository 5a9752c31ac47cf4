use Rattle.std.proofs.Common.{subst, ◌∷◌}
use Rattle.lemma_proof.specs.Heads.{HeadsOf, IsTable}
use Rattle.lemma_proof.specs.Rising.{HaveRisen}
use Rattle.lemma_proof.specs.Block.{converse_of}
use Rattle.lemma_proof.proofs.Halves.{other_way, both_tried}
use Rattle.lemma_proof.proofs.both.try_both.Goals as goal

pub try_arc-requires-clause-both : goal.try_arc-requires-clause-both
try_arc-requires-clause-both c = rw (c.all_tried.ensures.value, c.begin_trial.ensures, c.begin_trial-2.ensures) c.requires.both

pub try_arc-requires-2-clause-both : goal.try_arc-requires-2-clause-both
try_arc-requires-2-clause-both c =
    let risen : HaveRisen c.args.heads.now.rows (c.args.arc ∷ c.args.heads.now.arcs) c.args.tails.now.heads
    c.args.heads.now.heads c.try_arc.new.self.tried =
    rw (c.all_tried.ensures.value, c.begin_trial.ensures, c.begin_trial-2.ensures) at c.try_arc.ensures.risen in
    let table : IsTable c.args.tails.now.rows = subst (λ (h : HeadsOf). IsTable h.rows) c.begin_trial-2.ensures c.all_tried.ensures.law.table in
    rw (c.all_tried-2.ensures.value, c.begin_trial-2.ensures)
    (other_way c.args.heads.now.rows c.args.tails.now.rows c.try_arc.new.self.tried c.args.tails.now.heads
    c.requires.converse table risen.both)

pub returns : goal.returns
returns c =
    let risen : HaveRisen c.args.heads.now.rows (c.args.arc ∷ c.args.heads.now.arcs) c.args.tails.now.heads
    c.args.heads.now.heads c.try_arc.new.self.tried =
    rw (c.all_tried.ensures.value, c.begin_trial.ensures, c.begin_trial-2.ensures) at c.try_arc.ensures.risen in
    let back_risen : HaveRisen c.args.tails.now.rows (converse_of c.args.arc ∷ c.args.tails.now.arcs)
    c.try_arc.new.self.tried c.args.tails.now.heads c.try_arc-2.new.self.tried =
    rw (c.all_tried-2.ensures.value, c.converse_of.ensures, c.begin_trial-2.ensures) at c.try_arc-2.ensures.risen in
    let begun : IsTable c.begin_trial.new.self.rows = subst (λ (h : HeadsOf). IsTable h.rows) c.try_arc.ensures.tried c.all_tried-2.ensures.law.table in
    let table : IsTable c.args.heads.now.rows = subst (λ (h : HeadsOf). IsTable h.rows) c.begin_trial.ensures begun in
    both_tried c.args.arc c.args.heads.now c.args.tails.now c.begin_trial.new.self c.begin_trial-2.new.self
    c.try_arc.new.self c.try_arc-2.new.self c.requires.converse table c.begin_trial.ensures c.begin_trial-2.ensures
    c.try_arc.ensures.tried c.try_arc-2.ensures.tried risen back_risen
