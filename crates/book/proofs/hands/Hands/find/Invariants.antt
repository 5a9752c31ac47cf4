use Rattle.std.proofs.Common.{◌≢◌, map, take}
use Rattle.std.specs.List.{All}
use Rattle.book.specs.State.{Named, in_hand, hand_of}
use Rattle.book.proofs.hands.Hands.find.Given as goal

abbrev pub invariant-loop-worker : goal.invariant-loop-worker
invariant-loop-worker l = All (λ (held : Named). held.name ≢ l.name) (in_hand (map hand_of (take l.worker l.hand-items)))
