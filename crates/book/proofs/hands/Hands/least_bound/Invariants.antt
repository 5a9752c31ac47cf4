use Rattle.std.proofs.Common.{map, take}
use Rattle.branching.specs.Right.{IsLeast}
use Rattle.book.specs.State.{in_hand, hand_of}
use Rattle.book.specs.Sound.{bounds_of}
use Rattle.book.proofs.hands.Hands.least_bound.Given as goal

abbrev pub invariant-loop-hand : goal.invariant-loop-hand
invariant-loop-hand l = IsLeast (bounds_of (in_hand (map hand_of (take l.hand-index l.hand-items)))) l.least
