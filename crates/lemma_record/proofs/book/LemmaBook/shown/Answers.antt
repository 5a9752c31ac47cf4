use Rattle.std.proofs.Common.{ap, sym, rules, ◌++◌, List, ℕ}
use Rattle.lemma_record.specs.Texts.{whole}
use Rattle.lemma_log.specs.Text.{IsWritableClaim}
use Rattle.lemma_record.specs.LemmaBook.{BookOf, IsLogOf}
use Rattle.lemma_record.proofs.Booked.{best_shown, closed, feasible_shown, small_fits}
use Rattle.lemma_record.proofs.book.LemmaBook.shown.Goals as goal

pub returns-clause-proof : goal.returns-clause-proof
returns-clause-proof g c =
    let text : List ℕ = whole c.in-Some._log in
    let log : IsLogOf c.self.inside.ledger text = rw c.in-Some.is at c.self.invariant in
    let fits : IsWritableClaim c.claim-proved.result = small_fits c.claim-proved.result c.claim-proved.ensures.small in
    rw (sym c.self.view_is, c.in-Some.is) (record {
      proof = record {
        right = closed c.self.inside.ledger c.claim-proved.result text (text ++ c.put_event.new.bytes.items) log
            c.claim-proved.ensures.claims fits (search rules) (search rules);
        fact = c.claim-proved.ensures.law;
      };
      feasible = feasible_shown c.self.inside.ledger.project c.best.result c.in_ok-best.best c.best.ensures.feasible c.in_ok-best.ensures;
    })

pub returns-clause-best : goal.returns-clause-best
returns-clause-best g c =
    let view = ap (λ (x : BookOf). x.ledger) c.self.view_is in
    rw (sym view) (best_shown c.self.inside.ledger c.best.result c.in_ok-best.best c.best.ensures.best c.in_ok-best.ensures)
