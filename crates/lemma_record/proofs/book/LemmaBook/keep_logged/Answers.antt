use Rattle.std.proofs.Common.{◌≡◌, rules, sym, ap, false}
use Rattle.std.specs.Result.{is_err}
use Rattle.lemma_book.specs.Ledger.{with_lemma}
use Rattle.lemma_record.specs.Texts.{whole}
use Rattle.lemma_record.specs.LemmaBook.{BookOf, IsLogOf}
use Rattle.lemma_record.specs.Right.{Takes}
use Rattle.lemma_record.proofs.Booked.{appended}
use Rattle.lemma_record.proofs.book.LemmaBook.keep_logged.Goals as goal

pub invariant_of-self-else-is_err : goal.invariant_of-self-else-is_err
invariant_of-self-else-is_err g c =
    let view = ap (λ (x : BookOf). x.ledger) c.self.view_is in
    let kept : c.keep.new.self ≡ with_lemma c.self.inside.ledger c.args.slot c.args.arcs = c.in_ok-keep.ensures.kept in
    let takes : Takes c.self.inside.ledger c.args.event.now (with_lemma c.self.inside.ledger c.args.slot c.args.arcs) =
    rw (sym view) at c.requires.event.2 in
    let log : IsLogOf c.self.inside.ledger (whole c.in-Some.log) = rw c.in-Some.is at c.self.invariant in
    let ok : is_err c.log_event.result ≡ false = search rules in
    appended c.self.inside.ledger c.keep.new.self c.args.event.now (whole c.in-Some.log) (whole c.log_event.new.log)
    log c.requires.event.0 c.requires.event.1 (rw kept takes) (search rules) (search rules)
