use Rattle.std.proofs.Common.{take}
use Rattle.std.specs.List.{All}
use Rattle.network.specs.Problem.{IsTime}
use Rattle.lemma_book.proofs.leading.are_times.Given as goal

abbrev pub invariant-loop-start : goal.invariant-loop-start
invariant-loop-start l = All IsTime (take l.start-index l.starts)
