use Rattle.std.proofs.Common.{rules, sym, w64, SFits}
use Rattle.std.proofs.lemmas.Int.{to_z-of_z}
use Rattle.network.specs.Schedule.{IsLowerBound}
use Rattle.lemma_book.proofs.ledger.Ledger.bound.Goals as goal

pub returns-clause-law : goal.returns-clause-law
returns-clause-law c =
    let fits : SFits w64 c.bound.result = search rules in
    let law : IsLowerBound c.self.inside.draft.project c.bound.result = c.bound.ensures.law c.self.invariant in
    simp to_z-of_z (rw (sym c.self.view_is) law)
