use Rattle.std.proofs.Common.{◌≡◌, take}
use Rattle.branching.proofs.pair_list.PairList.is_same.Given as goal

abbrev pub invariant-loop-place : goal.invariant-loop-place
invariant-loop-place l = take l.place l.self ≡ take l.place l.other
