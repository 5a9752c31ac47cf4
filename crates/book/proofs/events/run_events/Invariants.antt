use Rattle.std.proofs.Common.{◌≡◌, ◌≤◌, length, vec_len, vec_capacity}
use Rattle.book.specs.Sound.{IsSound}
use Rattle.book.specs.Events.{Run}
use Rattle.book.proofs.events.run_events.Given as goal

abbrev pub invariant-loop-event : goal.invariant-loop-event
invariant-loop-event l =
    record {
      run : Run l.fn.book l.yielded l.replies.items l.book;
      told : vec_len l.replies ≡ length l.yielded;
      room : length l.fn.events.items ≤ vec_capacity l.replies;
      sound : IsSound l.book;
    }
