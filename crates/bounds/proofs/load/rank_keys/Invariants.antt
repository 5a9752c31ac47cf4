use Rattle.bounds.specs.Loads.{IsRanked}
use Rattle.bounds.proofs.load.rank_keys.Given as goal

abbrev pub invariant-loop-i : goal.invariant-loop-i
invariant-loop-i l = IsRanked l.keys l.order l.i l.count l.rising l.ranks
