use Rattle.std.proofs.Common.{[], refl}
use Rattle.lemma_book.specs.Ledger.{first_roots}
use Rattle.lemma_book.proofs.Ledgers.{first_sound}
use Rattle.lemma_book.proofs.ledger.Ledger.new.Goals as goal

pub invariant_of-result : goal.invariant_of-result
invariant_of-result c =
    let p = c.args.project.now in
    rw c.in_ok-new.ensures (first_sound p (first_roots p) [] refl refl)
