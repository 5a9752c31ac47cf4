use Rattle.std.proofs.Common.{subst, ◌∷◌, Some}
use Rattle.lemma_proof.specs.Heads.{HeadsOf, IsTable}
use Rattle.lemma_proof.specs.Rising.{HaveRisen, IsLate, IsRisenBy}
use Rattle.lemma_proof.specs.Block.{converse_of}
use Rattle.lemma_proof.proofs.Halves.{other_way, heads_risen, both_risen, heads_late, tails_late, both_raised}
use Rattle.lemma_proof.proofs.both.rise_both.Goals as goal

pub rise-requires-2-clause-both : goal.rise-requires-2-clause-both
rise-requires-2-clause-both c =
    let risen : HaveRisen c.args.heads.now.rows (c.args.arc ∷ c.args.heads.now.arcs) c.args.tails.now.heads
    c.args.heads.now.heads c.rise.new.self.heads = rw c.all.ensures.value at c.rise.ensures.risen in
    rw c.all-2.ensures.value (other_way c.args.heads.now.rows c.args.tails.now.rows c.rise.new.self.heads
    c.args.tails.now.heads c.requires.converse c.all.ensures.law.table risen.both)

pub returns-in_err-heads_settled-clause-risen : goal.returns-in_err-heads_settled-clause-risen
returns-in_err-heads_settled-clause-risen c =
    let risen : HaveRisen c.args.heads.now.rows (c.args.arc ∷ c.args.heads.now.arcs) c.args.tails.now.heads
    c.args.heads.now.heads c.rise.new.self.heads = rw c.all.ensures.value at c.rise.ensures.risen in
    heads_risen c.args.arc c.args.heads.now c.args.tails.now c.rise.new.self c.rise.ensures.heads risen

pub returns-in_err-heads_settled-clause-told : goal.returns-in_err-heads_settled-clause-told
returns-in_err-heads_settled-clause-told c =
    let late : IsLate (c.args.arc ∷ c.args.heads.now.arcs) c.rise.new.self.heads c.args.tails.now.heads =
    rw c.all.ensures.value at c.in_err-heads_settled.ensures.told in
    rw c.from_residual.ensures (heads_late c.args.arc c.args.heads.now c.args.tails.now c.rise.new.self late)

pub returns-in_err-tails_settled-clause-risen : goal.returns-in_err-tails_settled-clause-risen
returns-in_err-tails_settled-clause-risen c =
    let risen : HaveRisen c.args.heads.now.rows (c.args.arc ∷ c.args.heads.now.arcs) c.args.tails.now.heads
    c.args.heads.now.heads c.rise.new.self.heads = rw c.all.ensures.value at c.rise.ensures.risen in
    let back_risen : HaveRisen c.args.tails.now.rows (converse_of c.args.arc ∷ c.args.tails.now.arcs)
    c.rise.new.self.heads c.args.tails.now.heads c.rise-2.new.self.heads =
    rw (c.all-2.ensures.value, c.converse_of.ensures) at c.rise-2.ensures.risen in
    let table : IsTable c.args.heads.now.rows = subst (λ (h : HeadsOf). IsTable h.rows) c.rise.ensures.heads c.all-2.ensures.law.table in
    both_risen c.args.arc c.args.heads.now c.args.tails.now c.rise.new.self c.rise-2.new.self c.requires.converse table
    c.rise.ensures.heads c.rise-2.ensures.heads risen back_risen

pub returns-in_err-tails_settled-clause-told : goal.returns-in_err-tails_settled-clause-told
returns-in_err-tails_settled-clause-told c =
    let late : IsLate (converse_of c.args.arc ∷ c.args.tails.now.arcs) c.rise-2.new.self.heads c.rise.new.self.heads =
    rw (c.all-2.ensures.value, c.converse_of.ensures) at c.in_err-tails_settled.ensures.told in
    rw c.from_residual-in_err-tails_settled.ensures (tails_late c.args.arc c.args.heads.now c.args.tails.now c.rise.new.self c.rise-2.new.self late)

pub returns-then-heads_settled-clause-risen : goal.returns-then-heads_settled-clause-risen
returns-then-heads_settled-clause-risen c =
    let risen : HaveRisen c.args.heads.now.rows (c.args.arc ∷ c.args.heads.now.arcs) c.args.tails.now.heads
    c.args.heads.now.heads c.rise.new.self.heads = rw c.all.ensures.value at c.rise.ensures.risen in
    let back_risen : HaveRisen c.args.tails.now.rows (converse_of c.args.arc ∷ c.args.tails.now.arcs)
    c.rise.new.self.heads c.args.tails.now.heads c.rise-2.new.self.heads =
    rw (c.all-2.ensures.value, c.converse_of.ensures) at c.rise-2.ensures.risen in
    let table : IsTable c.args.heads.now.rows = subst (λ (h : HeadsOf). IsTable h.rows) c.rise.ensures.heads c.all-2.ensures.law.table in
    both_risen c.args.arc c.args.heads.now c.args.tails.now c.rise.new.self c.rise-2.new.self c.requires.converse table
    c.rise.ensures.heads c.rise-2.ensures.heads risen back_risen

pub returns-else-heads_settled-clause-risen : goal.returns-else-heads_settled-clause-risen
returns-else-heads_settled-clause-risen c =
    let risen : HaveRisen c.args.heads.now.rows (c.args.arc ∷ c.args.heads.now.arcs) c.args.tails.now.heads
    c.args.heads.now.heads c.rise.new.self.heads = rw c.all.ensures.value at c.rise.ensures.risen in
    let back_risen : HaveRisen c.args.tails.now.rows (converse_of c.args.arc ∷ c.args.tails.now.arcs)
    c.rise.new.self.heads c.args.tails.now.heads c.rise-2.new.self.heads =
    rw (c.all-2.ensures.value, c.converse_of.ensures) at c.rise-2.ensures.risen in
    let table : IsTable c.args.heads.now.rows = subst (λ (h : HeadsOf). IsTable h.rows) c.rise.ensures.heads c.all-2.ensures.law.table in
    both_risen c.args.arc c.args.heads.now c.args.tails.now c.rise.new.self c.rise-2.new.self c.requires.converse table
    c.rise.ensures.heads c.rise-2.ensures.heads risen back_risen

pub returns-then-heads_settled-clause-told : goal.returns-then-heads_settled-clause-told
returns-then-heads_settled-clause-told c =
    let risen : HaveRisen c.args.heads.now.rows (c.args.arc ∷ c.args.heads.now.arcs) c.args.tails.now.heads
    c.args.heads.now.heads c.rise.new.self.heads = rw c.all.ensures.value at c.rise.ensures.risen in
    let back_risen : HaveRisen c.args.tails.now.rows (converse_of c.args.arc ∷ c.args.tails.now.arcs)
    c.rise.new.self.heads c.args.tails.now.heads c.rise-2.new.self.heads =
    rw (c.all-2.ensures.value, c.converse_of.ensures) at c.rise-2.ensures.risen in
    let told : IsRisenBy c.args.arc c.args.heads.now.arcs c.args.tails.now.heads c.args.heads.now.heads
    c.rise.new.self.heads (Some c.in_ok-heads_settled.heads_settled) = c.in_ok-heads_settled.ensures.told in
    let back_told : IsRisenBy (converse_of c.args.arc) c.args.tails.now.arcs c.rise.new.self.heads
    c.args.tails.now.heads c.rise-2.new.self.heads (Some c.in_ok-tails_settled.tails_settled) =
    rw c.converse_of.ensures at c.in_ok-tails_settled.ensures.told in
    both_raised c.args.arc c.args.heads.now c.args.tails.now c.rise.new.self c.rise-2.new.self
    c.in_ok-heads_settled.heads_settled c.in_ok-tails_settled.tails_settled c.in_ok-tails_settled.tails_settled
    c.requires.converse risen back_risen told back_told (λ is. c.if-heads_settled.true)

pub returns-else-heads_settled-clause-told : goal.returns-else-heads_settled-clause-told
returns-else-heads_settled-clause-told c =
    let risen : HaveRisen c.args.heads.now.rows (c.args.arc ∷ c.args.heads.now.arcs) c.args.tails.now.heads
    c.args.heads.now.heads c.rise.new.self.heads = rw c.all.ensures.value at c.rise.ensures.risen in
    let back_risen : HaveRisen c.args.tails.now.rows (converse_of c.args.arc ∷ c.args.tails.now.arcs)
    c.rise.new.self.heads c.args.tails.now.heads c.rise-2.new.self.heads =
    rw (c.all-2.ensures.value, c.converse_of.ensures) at c.rise-2.ensures.risen in
    let told : IsRisenBy c.args.arc c.args.heads.now.arcs c.args.tails.now.heads c.args.heads.now.heads
    c.rise.new.self.heads (Some c.in_ok-heads_settled.heads_settled) = c.in_ok-heads_settled.ensures.told in
    let back_told : IsRisenBy (converse_of c.args.arc) c.args.tails.now.arcs c.rise.new.self.heads
    c.args.tails.now.heads c.rise-2.new.self.heads (Some c.in_ok-tails_settled.tails_settled) =
    rw c.converse_of.ensures at c.in_ok-tails_settled.ensures.told in
    both_raised c.args.arc c.args.heads.now c.args.tails.now c.rise.new.self c.rise-2.new.self
    c.in_ok-heads_settled.heads_settled c.in_ok-tails_settled.tails_settled c.in_ok-heads_settled.heads_settled
    c.requires.converse risen back_risen told back_told (λ is. is)
