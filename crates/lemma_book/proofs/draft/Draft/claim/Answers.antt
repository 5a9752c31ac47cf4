use Rattle.std.proofs.Common.{rules, sym, ◌∙◌, w64, SFits}
use Rattle.std.proofs.lemmas.Int.{to_z-of_z}
use Rattle.network.specs.Problem.{end_of}
use Rattle.network.specs.Walk.{HasNoPositiveCycle}
use Rattle.lemma_book.specs.Ledger.{IsBoundOf, LedgerOf, own_of}
use Rattle.lemma_book.specs.Premises.{ledger_of}
use Rattle.lemma_book.proofs.Claims.{least_going}
use Rattle.lemma_book.proofs.draft.Draft.claim.Goals as goal

pub returns-then-is_some-clause-claims : goal.returns-then-is_some-clause-claims
returns-then-is_some-clause-claims c =
    let l : LedgerOf = ledger_of c.self.inside.premises c.self.inside.best in
    let live : HasNoPositiveCycle (own_of l) =
    least_going (own_of l) (end_of l.project) c.least_end.result (sym c.is_some.ensures ∙ c.if-is_some.true)
    c.least_end.ensures.end in
    let fits : SFits w64 c.bound.result = search rules in
    let bound : IsBoundOf c.args.self.now c.bound.result = c.bound.ensures.value in
    (rw (sym c.self.view_is) live, simp to_z-of_z bound)
