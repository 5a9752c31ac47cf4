use Rattle.std.proofs.Common.{rules, ◌≡◌, sym, ap, ◌∙◌, append_assoc, arith, ◌+◌, List, [], ◌∷◌, ◌++◌, length-append, vec_len, vec_capacity}
use Rattle.network.proofs.FaultLaws.{on_err}
use Rattle.lemma_book.specs.Premises.{PremisesOf}
use Rattle.lemma_record.specs.declared.desk.Lemma.{Lemma}
use Rattle.lemma_record.specs.Desk.{Accepts, AcceptsSome, IsDesk, IsShown}
use Rattle.lemma_record.proofs.Accepted.{accepts_more, none_accepted, one_of, some_accepted, still_ahead}
use Rattle.lemma_record.proofs.book.LemmaBook.accept.Goals as goal

pub returns-in_err-taken-clause-some : goal.returns-in_err-taken-clause-some
returns-in_err-taken-clause-some g c =
    let inv = c.loop-lemma.invariant in
    let some : AcceptsSome c.args.desk.now.premises c.args.self.now c.args.desk.now.proved c.accept_beside.new.self =
    some_accepted c.args.desk.now.premises c.args.self.now c.loop-lemma.self c.accept_beside.new.self
    c.args.desk.now.proved c.loop-lemma.yielded c.next.new.self.rest.items c.in-Some.lemma
    c.loop-lemma.accepted.items
    (inv.waits ∙ ap (λ (rest : List Lemma). c.loop-lemma.yielded ++ rest) c.in-Some.ensures.steps.0) inv.each c.in_err-taken.ensures.cut_short in
    on_err c.from_residual-in_err-taken.result some

pub returns-in_err-accepted-clause-some : goal.returns-in_err-accepted-clause-some
returns-in_err-accepted-clause-some g c =
    on_err c.from_residual.result (none_accepted c.args.desk.now.premises c.args.self.now c.args.desk.now.proved)

pub loop-lemma-preserved : goal.loop-lemma-preserved
loop-lemma-preserved g c =
    let inv = c.loop-lemma.invariant in
    let x : PremisesOf = c.args.desk.now.premises in
    let same : c.premises-in-loop-lemma.result.now ≡ x = search rules in
    let one : Accepts c.loop-lemma.self x c.in-Some.lemma c.in_ok-taken.taken c.accept_beside.new.self = rw same at c.in_ok-taken.ensures.accepted in
    let waits : c.args.desk.now.proved ≡ c.loop-lemma.yielded ++ c.in-Some.lemma ∷ c.next.new.self.rest.items =
    inv.waits ∙ ap (λ (rest : List Lemma). c.loop-lemma.yielded ++ rest) c.in-Some.ensures.steps.0 in
    let all : IsDesk x c.args.desk.now.proved = rw c.take_proved-lemmas.ensures.taken at c.take_proved-lemmas.ensures.shown in
    let shown : IsShown x c.in-Some.lemma = one_of (IsShown x) c.loop-lemma.yielded c.in-Some.lemma c.next.new.self.rest.items (rw waits at all) in
    let items : c.push_reserved.new.self.items ≡ c.loop-lemma.accepted.items ++ c.in_ok-taken.taken ∷ [] = search rules in
    let capacity : vec_capacity c.push_reserved.new.self ≡ vec_capacity c.loop-lemma.accepted = search rules in
    let count : vec_len c.push_reserved.new.self ≡ vec_len c.loop-lemma.accepted + 1 = search rules in
    record {
      each = rw items (accepts_more x c.args.self.now c.loop-lemma.self c.accept_beside.new.self c.loop-lemma.yielded
          c.loop-lemma.accepted.items c.in-Some.lemma c.in_ok-taken.taken inv.each one);
      waits = waits ∙ sym (append_assoc c.loop-lemma.yielded (c.in-Some.lemma ∷ []) c.next.new.self.rest.items);
      desk = inv.desk;
      told = omega (arith, count, inv.told, length-append c.loop-lemma.yielded (c.in-Some.lemma ∷ []));
      room = omega (arith, capacity, inv.room);
      ahead = still_ahead c.loop-lemma.self c.accept_beside.new.self x c.in-Some.lemma c.in_ok-taken.taken
          c.are_ahead-is_ahead.result shown.several one inv.ahead;
    }
