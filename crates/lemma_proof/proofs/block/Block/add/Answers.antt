use Rattle.std.proofs.Common.{◌≡◌, sym, subst, true, length}
use Rattle.lemma_proof.specs.Heads.{IsLight}
use Rattle.lemma_proof.specs.Halves.{AreHalves}
use Rattle.lemma_proof.proofs.Halves.{unsettled, listed_halves, told_halves, told_more}
use Rattle.lemma_proof.proofs.block.Block.add.Goals as goal

pub invariant_of-self : goal.invariant_of-self
invariant_of-self c = rw c.in_err-push.ensures.items
    (unsettled c.self.inside.more.items c.self.inside.heads c.self.inside.tails c.self.inside.settled c.self.invariant)

pub invariant_of-self-in_err-push_both : goal.invariant_of-self-in_err-push_both
invariant_of-self-in_err-push_both c =
    let light : IsLight (length c.self.inside.heads.rows) c.args.arc = rw (sym c.self.view_is) at c.requires in
    rw c.in_ok-push.ensures.items (listed_halves c.self.inside.more.items c.self.inside.heads c.self.inside.tails
    c.push_both.new.heads c.push_both.new.tails c.args.arc c.self.inside.settled c.self.invariant light
    c.push_both.ensures.heads c.push_both.ensures.tails)

pub invariant_of-self-then-not-was_settled : goal.invariant_of-self-then-not-was_settled
invariant_of-self-then-not-was_settled c =
    let light : IsLight (length c.self.inside.heads.rows) c.args.arc = rw (sym c.self.view_is) at c.requires in
    rw c.in_ok-push.ensures.items (listed_halves c.self.inside.more.items c.self.inside.heads c.self.inside.tails
    c.push_both.new.heads c.push_both.new.tails c.args.arc c.self.inside.settled c.self.invariant light
    c.push_both.ensures.heads c.push_both.ensures.tails)

pub invariant_of-self-2 : goal.invariant_of-self-2
invariant_of-self-2 c =
    let light : IsLight (length c.self.inside.heads.rows) c.args.arc = rw (sym c.self.view_is) at c.requires in
    let settled : c.self.inside.settled ≡ true = c.if-not-was_settled.false in
    let halves : AreHalves c.self.inside.more.items c.self.inside.heads c.self.inside.tails true =
    subst (AreHalves c.self.inside.more.items c.self.inside.heads c.self.inside.tails) settled c.self.invariant in
    rw (c.in_ok-push.ensures.items, c.unwrap_or-self-inside.ensures)
    (told_halves c.self.inside.more.items c.self.inside.heads c.self.inside.tails c.push_both.new.heads
    c.push_both.new.tails c.rise_both-settled.new.heads c.rise_both-settled.new.tails c.args.arc
    c.rise_both-settled.result light halves c.push_both.ensures.heads c.push_both.ensures.tails
    c.in_ok-push_both.ensures.listed c.rise_both-settled.ensures.risen c.rise_both-settled.ensures.told)

pub returns-clause-told : goal.returns-clause-told
returns-clause-told c =
    let light : IsLight (length c.self.inside.heads.rows) c.args.arc = rw (sym c.self.view_is) at c.requires in
    let settled : c.self.inside.settled ≡ true = c.if-not-was_settled.false in
    let halves : AreHalves c.self.inside.more.items c.self.inside.heads c.self.inside.tails true =
    subst (AreHalves c.self.inside.more.items c.self.inside.heads c.self.inside.tails) settled c.self.invariant in
    rw (c.in_ok-push.ensures.items, c.told.ensures)
    (told_more c.self.inside.more.items c.self.inside.heads c.self.inside.tails c.push_both.new.heads
    c.push_both.new.tails c.rise_both-settled.new.heads c.rise_both-settled.new.tails c.args.arc
    c.rise_both-settled.result c.activity_count-rows.ensures.law.table c.activity_count-columns.ensures.law.table
    light halves c.push_both.ensures.heads c.push_both.ensures.tails c.in_ok-push_both.ensures.listed
    c.rise_both-settled.ensures.risen c.rise_both-settled.ensures.told)
