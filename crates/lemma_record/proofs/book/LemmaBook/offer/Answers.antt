use Rattle.std.proofs.Common.{◌≡◌, rules, IsTrue, false}
use Rattle.std.specs.Result.{is_err}
use Rattle.lemma_record.specs.Texts.{whole}
use Rattle.lemma_record.specs.LemmaBook.{IsLogOf}
use Rattle.lemma_record.specs.Taking.{IsTaken}
use Rattle.lemma_record.proofs.Booked.{logged_more}
use Rattle.lemma_record.proofs.book.LemmaBook.offer.Goals as goal

pub invariant_of-self-else-is_err : goal.invariant_of-self-else-is_err
invariant_of-self-else-is_err g c =
    let log : IsLogOf c.self.inside.ledger (whole c.in-Some.log) = rw c.in-Some.is at c.self.invariant in
    let taken : IsTaken c.self.inside.ledger c.args.event c.in-Some-2.logged c.take.new.ledger = rw c.in-Some-2.is at c.in_ok-logged.ensures.taken in
    let is_step : IsTrue c.is_step.result = search rules in
    let is_writable : IsTrue c.is_writable.result = search rules in
    let ok : is_err c.log_event.result ≡ false = search rules in
    logged_more c.self.inside.ledger c.take.new.ledger c.args.event c.in-Some-2.logged (whole c.in-Some.log)
    (whole c.log_event.new.log) log (c.is_step.ensures.0 is_step) (c.is_writable.ensures.0 is_writable) taken
    (search rules) (search rules)
