use Rattle.std.proofs.Common.{◌≡◌, map, take, pos}
use Rattle.record_text.proofs.starts.times.Given as goal

abbrev pub invariant-loop-number : goal.invariant-loop-number
invariant-loop-number l = l.times.items ≡ map pos (take l.number-index l.numbers)
