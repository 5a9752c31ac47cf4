use Rattle.lemma_record.proofs.Desks.{followed, more_roots}
use Rattle.lemma_record.proofs.desk.Desk.follow.Goals as goal

pub invariant_of-self : goal.invariant_of-self
invariant_of-self c =
    let some = c.in_err-same.ensures.some in
    rw some.1 (more_roots c.self.inside.premises _ c.self.inside.proved.items c.self.invariant)

pub invariant_of-self-2 : goal.invariant_of-self-2
invariant_of-self-2 c =
    followed c.self.inside.premises c.premises.result.now c.follow.new.self c.in_ok-same.same c.self.inside.proved.items
    c.in_ok-same.ensures.followed c.self.invariant
