use Rattle.std.proofs.Common.{◌≡◌, ◌+◌, length, vec_len, vec_capacity}
use Rattle.shared_book.specs.Desks.{IsRowAt}
use Rattle.worker.proofs.threads.start_workers.Given as goal

abbrev pub invariant-loop-desk : goal.invariant-loop-desk
invariant-loop-desk g l = record {
  row : IsRowAt l.shared.best (length l.yielded) l.desk-iterator.rest.items;
  started : vec_len l.running ≡ length l.yielded;
  room : vec_capacity l.running ≡ vec_capacity l.initial.running;
  all : length l.yielded + length l.desk-iterator.rest.items ≡ length l.initial.desk-iterator.rest.items;
}
