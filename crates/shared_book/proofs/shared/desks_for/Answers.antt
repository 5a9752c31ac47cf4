use Rattle.std.proofs.Common.{◌≡◌, length, rules, arith}
use Rattle.shared_book.proofs.Rows.{IsRowAt-push}
use Rattle.shared_book.proofs.shared.desks_for.Goals as goal

pub loop-number-preserved : goal.loop-number-preserved
loop-number-preserved g c =
    let i = c.loop-number.invariant in
    let count : length c.loop-number.desks.items ≡ c.loop-number.number = search rules in
    record {
      parts = search rules;
      amount = search rules;
      keys = search rules;
      none = search rules;
      seat = search rules;
      count = search rules;
      each = rw c.in_ok-push.ensures.items (IsRowAt-push _ 0 _ _ i.each (omega (arith, c.new_desk-desk.ensures.0, count)) (search rules));
    }
