use Rattle.std.proofs.Common.{ℕ, ◌<◌}
use Rattle.std.specs.List.{Contains}
use Rattle.network.specs.Problem.{pair_of}
use Rattle.forbidden_sets.specs.Incompatible.{AllIncompatible, AreIncompatible, pairs_before}
use Rattle.forbidden_sets.proofs.incompatible.incompatible_with.Given as goal

abbrev pub invariant-loop-other : goal.invariant-loop-other
invariant-loop-other l = record {
  rivals : AllIncompatible l.project (pairs_before l.activity l.others.items);
  whole : (j : ℕ) → j < l.other → AreIncompatible l.project (pair_of l.activity j) → Contains l.others.items j;
}
