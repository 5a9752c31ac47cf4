use Rattle.std.proofs.Common.{◌≡◌, List, Option, None}
use Rattle.std.proofs.Math.ListN.{replicate}
use Rattle.book.specs.declared.hands.Held.{Held}
use Rattle.book.proofs.hands.Hands.new.Given as goal

abbrev pub invariant-loop : goal.invariant-loop
invariant-loop l = ◌≡◌ {A = List (Option Held)} l.hands.items (replicate l.counter None)
