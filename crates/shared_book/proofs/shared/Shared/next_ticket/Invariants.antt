use Rattle.std.proofs.Common.{◌≡◌}
use Rattle.shared_book.specs.Desks.{SameButKey}
use Rattle.shared_book.proofs.shared.Shared.next_ticket.Given as goal

abbrev pub invariant-loop : goal.invariant-loop
invariant-loop g l = SameButKey l.initial.desk l.desk × (l.desk.key ≡ l.initial.desk.key)
