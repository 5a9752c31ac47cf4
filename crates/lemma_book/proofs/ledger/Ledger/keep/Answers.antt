use Rattle.std.proofs.Common.{sym}
use Rattle.lemma_book.proofs.Ledgers.{lemma_sound}
use Rattle.lemma_book.proofs.ledger.Ledger.keep.Goals as goal

pub invariant_of-self-2 : goal.invariant_of-self-2
invariant_of-self-2 c =
    let may = rw (sym c.self.view_is) at c.requires in
    rw c.in_ok-keep.ensures.kept (lemma_sound c.self.inside.draft c.args.slot c.args.arcs may.0 c.self.invariant may.1)
