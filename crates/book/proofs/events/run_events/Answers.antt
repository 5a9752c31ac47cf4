use Rattle.std.proofs.Common.{◌≡◌, ◌+◌, ◌++◌, List, ◌∷◌, [], subst, sym, vec_len, vec_capacity, arith, rules, length-append}
use Rattle.book.specs.Events.{Run, Response}
use Rattle.book.proofs.Steps.{run_more}
use Rattle.book.proofs.events.run_events.Goals as goal

pub loop-event-preserved : goal.loop-event-preserved
loop-event-preserved c =
    let items : c.push_reserved.new.self.items ≡ c.loop-event.replies.items ++ c.apply-reply.result ∷ [] = search rules in
    let capacity : vec_capacity c.push_reserved.new.self ≡ vec_capacity c.loop-event.replies = search rules in
    let count : vec_len c.push_reserved.new.self ≡ vec_len c.loop-event.replies + 1 = search rules in
    record {
      run =
          subst (λ (rs : List Response). Run c.args.book.now (c.loop-event.yielded ++ c.in-Some.event ∷ []) rs c.apply-reply.new.book) (sym items)
          (run_more c.args.book.now c.loop-event.book c.apply-reply.new.book c.loop-event.yielded
          c.loop-event.replies.items c.in-Some.event c.apply-reply.result c.loop-event.invariant.run
          c.apply-reply.ensures.step);
      told = omega (arith, count, c.loop-event.invariant.told, length-append c.loop-event.yielded (c.in-Some.event ∷ []));
      room = omega (arith, capacity, c.loop-event.invariant.room);
      sound = c.apply-reply.ensures.sound;
    }
