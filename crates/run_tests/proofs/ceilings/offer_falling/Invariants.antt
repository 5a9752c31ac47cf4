use Rattle.std.proofs.Common.{◌≡◌}
use Rattle.run_tests.proofs.ceilings.offer_falling.Given as goal

abbrev pub invariant-loop-step : goal.invariant-loop-step
invariant-loop-step l = l.seat.ceiling ≡ l.ceiling
