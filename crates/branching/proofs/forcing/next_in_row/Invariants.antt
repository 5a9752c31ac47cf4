use Rattle.std.proofs.Common.{take}
use Rattle.std.specs.List.{All}
use Rattle.branching.specs.Forcing.{IsForcedIn}
use Rattle.forbidden_sets.specs.Incompatible.{pairs_before}
use Rattle.branching.proofs.forcing.next_in_row.Given as goal

abbrev pub invariant-loop-after : goal.invariant-loop-after
invariant-loop-after l = All (λ pair. ¬ IsForcedIn l.project l.matrix pair) (pairs_before l.row.activity (take l.after-index l.row.others.items))
