use Rattle.std.proofs.Common.{sym}
use Rattle.lemma_record.specs.Desk.{DeskOf, MayCopy}
use Rattle.lemma_record.proofs.Desks.{copied}
use Rattle.lemma_record.proofs.desk.Desk.copy.Goals as goal

pub invariant_of-self-2 : goal.invariant_of-self-2
invariant_of-self-2 c =
    let d : DeskOf = record { premises = c.self.inside.premises; proved = c.self.inside.proved.items } in
    let may : MayCopy d c.args.slot c.args.arcs = rw (sym c.self.view_is, c.as_slice.ensures) at (c.may_copy.ensures.0 c.if-not-may_copy.false) in
    rw c.in_ok-shelve.ensures.filled (copied d c.args.slot c.args.arcs may c.self.invariant)
