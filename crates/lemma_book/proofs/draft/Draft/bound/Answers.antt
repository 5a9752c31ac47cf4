use Rattle.std.proofs.Common.{◌≡◌, rules, sym, ap, ◌∙◌, w64, SFits}
use Rattle.std.specs.Int.{int_min}
use Rattle.std.proofs.lemmas.Int.{to_z-of_z}
use Rattle.network.specs.Schedule.{IsLowerBound}
use Rattle.lemma_book.specs.Ledger.{IsBoundOf, LedgerOf, ceiling_of}
use Rattle.lemma_book.specs.Premises.{ledger_of}
use Rattle.lemma_book.proofs.Claims.{ended_bound, ended_law, going_bound, going_law}
use Rattle.lemma_book.proofs.draft.Draft.bound.Goals as goal

pub returns-in-Some-clause-value : goal.returns-in-Some-clause-value
returns-in-Some-clause-value c =
    let l : LedgerOf = ledger_of c.self.inside.premises c.self.inside.best in
    let fits : SFits w64 c.min.result = search rules in
    let least_fits : SFits w64 c.in-Some.least = search rules in
    let ceiling_fits : SFits w64 c.ceiling.result = search rules in
    let value : c.ceiling.result ≡ ceiling_of l = rw (sym c.self.view_is) at c.ceiling.ensures.value in
    let least : c.min.result ≡ int_min c.in-Some.least c.ceiling.result = simp to_z-of_z at c.min.ensures.value in
    let found : IsBoundOf l c.min.result =
    going_bound l c.in-Some.least c.min.result c.in-Some.ensures.end.0 c.in-Some.ensures.end.1
    (least ∙ ap (int_min c.in-Some.least) value) in
    simp to_z-of_z (rw (sym c.self.view_is) found)

pub returns-in-Some-clause-law : goal.returns-in-Some-clause-law
returns-in-Some-clause-law c sound =
    let l : LedgerOf = ledger_of c.self.inside.premises c.self.inside.best in
    let fits : SFits w64 c.min.result = search rules in
    let least_fits : SFits w64 c.in-Some.least = search rules in
    let ceiling_fits : SFits w64 c.ceiling.result = search rules in
    let value : c.ceiling.result ≡ ceiling_of l = rw (sym c.self.view_is) at c.ceiling.ensures.value in
    let least : c.min.result ≡ int_min c.in-Some.least c.ceiling.result = simp to_z-of_z at c.min.ensures.value in
    let found : IsLowerBound l.project c.min.result =
    going_law l c.in-Some.least c.min.result (rw (sym c.self.view_is) at sound) c.in-Some.ensures.end.1
    (least ∙ ap (int_min c.in-Some.least) value) in
    simp to_z-of_z (rw (sym c.self.view_is) found)

pub returns-in-None-clause-value : goal.returns-in-None-clause-value
returns-in-None-clause-value c =
    let l : LedgerOf = ledger_of c.self.inside.premises c.self.inside.best in
    let fits : SFits w64 c.ceiling-in-None.result = search rules in
    let value : c.ceiling-in-None.result ≡ ceiling_of l = rw (sym c.self.view_is) at c.ceiling-in-None.ensures.value in
    let found : IsBoundOf l c.ceiling-in-None.result = ended_bound l c.ceiling-in-None.result value c.in-None.ensures.end in
    simp to_z-of_z (rw (sym c.self.view_is) found)

pub returns-in-None-clause-law : goal.returns-in-None-clause-law
returns-in-None-clause-law c sound =
    let l : LedgerOf = ledger_of c.self.inside.premises c.self.inside.best in
    let fits : SFits w64 c.ceiling-in-None.result = search rules in
    let value : c.ceiling-in-None.result ≡ ceiling_of l = rw (sym c.self.view_is) at c.ceiling-in-None.ensures.value in
    let found : IsLowerBound l.project c.ceiling-in-None.result =
    ended_law l c.ceiling-in-None.result value (rw (sym c.self.view_is) at sound) c.in-None.ensures.end in
    simp to_z-of_z (rw (sym c.self.view_is) found)
