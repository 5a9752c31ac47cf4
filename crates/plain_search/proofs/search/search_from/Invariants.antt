use Rattle.std.proofs.Common.{◌≡◌}
use Rattle.plain_search.proofs.Outcomes.{HasTaken}
use Rattle.plain_search.proofs.search.search_from.Given as goal

abbrev pub invariant-loop : goal.invariant-loop
invariant-loop l = record {
  taken : HasTaken l.fn.search.project l.counter l.search;
  searcher : l.searcher.project ≡ l.fn.search.project;
}
