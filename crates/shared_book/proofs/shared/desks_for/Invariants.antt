use Rattle.std.proofs.Common.{◌≡◌, ◌+◌, ◌*◌, vec_len}
use Rattle.shared_book.specs.Desks.{IsRowAt}
use Rattle.shared_book.proofs.shared.desks_for.Given as goal

abbrev pub invariant-loop-number : goal.invariant-loop-number
invariant-loop-number g l = record {
  parts : l.all.parts + l.number ≡ l.workers;
  amount : l.all.amount ≡ 0;
  keys : l.keys.parts + 3 * l.number ≡ 3 * (l.workers + 1);
  none : l.keys.amount ≡ 0;
  seat : l.seat.ceiling ≡ l.best;
  count : vec_len l.desks ≡ l.number;
  each : IsRowAt l.best 0 l.desks.items;
}
