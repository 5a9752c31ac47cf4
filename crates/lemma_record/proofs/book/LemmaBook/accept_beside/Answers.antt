use Rattle.std.proofs.Common.{◌≡◌, rules, refl, sym, ap}
use Rattle.lemma_book.specs.Ledger.{MayTake, with_lemma}
use Rattle.lemma_book.specs.Premises.{AreAhead, premises_in}
use Rattle.lemma_log.specs.Text.{IsWritableBody}
use Rattle.lemma_record.specs.LemmaBook.{BookOf}
use Rattle.lemma_record.specs.Desk.{event_of}
use Rattle.lemma_record.proofs.Desks.{covers_of, may_take}
use Rattle.lemma_record.proofs.book.LemmaBook.accept_beside.Goals as goal

pub keep_logged-requires-clause-may : goal.keep_logged-requires-clause-may
keep_logged-requires-clause-may g c =
    let has = c.has_all.ensures.0 c.if-not-has_all.false in
    let view = ap (λ (x : BookOf). x.ledger) c.self.view_is in
    let ahead : AreAhead (premises_in c.self.inside.ledger) c.args.premises.now = rw (sym view) at (c.requires.ahead.0 c.if-not-is_ahead.false) in
    let copy : c.new-arcs.result ≡ c.args.lemma.arcs = search rules in
    rw (sym view) (c.args.lemma.lines, rw copy (may_take c.self.inside.ledger c.args.premises.now c.args.lemma ahead has.0 has.1 c.requires.shown))

pub keep_logged-requires-clause-event : goal.keep_logged-requires-clause-event
keep_logged-requires-clause-event g c =
    let has = c.has_all.ensures.0 c.if-not-has_all.false in
    let view = ap (λ (x : BookOf). x.ledger) c.self.view_is in
    let ahead : AreAhead (premises_in c.self.inside.ledger) c.args.premises.now = rw (sym view) at (c.requires.ahead.0 c.if-not-is_ahead.false) in
    let copy : c.new-arcs.result ≡ c.args.lemma.arcs = search rules in
    let may : MayTake c.self.inside.ledger c.args.lemma.slot c.args.lemma.arcs c.args.lemma.lines =
    may_take c.self.inside.ledger c.args.premises.now c.args.lemma ahead has.0 has.1 c.requires.shown in
    let event : c.event_of-event.result ≡ event_of c.args.lemma = c.event_of-event.ensures in
    let writable : IsWritableBody (event_of c.args.lemma) = rw event at (c.is_writable.ensures.0 c.if-not-is_writable.false) in
    rw (sym view, event, copy) (tt, writable, (may, refl))

pub returns-clause-accepted : goal.returns-clause-accepted
returns-clause-accepted g c =
    let has = c.has_all.ensures.0 c.if-not-has_all.false in
    let view = ap (λ (x : BookOf). x.ledger) c.self.view_is in
    let ahead : AreAhead (premises_in c.self.inside.ledger) c.args.premises.now = rw (sym view) at (c.requires.ahead.0 c.if-not-is_ahead.false) in
    let copy : c.new-arcs.result ≡ c.args.lemma.arcs = search rules in
    let may : MayTake c.self.inside.ledger c.args.lemma.slot c.args.lemma.arcs c.args.lemma.lines =
    may_take c.self.inside.ledger c.args.premises.now c.args.lemma ahead has.0 has.1 c.requires.shown in
    let event : c.event_of-event.result ≡ event_of c.args.lemma = c.event_of-event.ensures in
    let writable : IsWritableBody (event_of c.args.lemma) = rw event at (c.is_writable.ensures.0 c.if-not-is_writable.false) in
    let kept : c.keep_logged.new.self.ledger ≡ with_lemma c.args.self.now.ledger c.args.lemma.slot c.args.lemma.arcs = rw copy at c.in_ok-keep_logged.ensures.kept.0 in (
      rw (sym view) (record {
        covers = covers_of c.self.inside.ledger c.args.premises.now c.args.lemma.lines ahead has.0;
        room = has.1;
        writable = writable;
      }),
      (rw (sym view) may, kept),
      c.in_ok-keep_logged.ensures.kept.1,
    )
