use Rattle.std.proofs.Common.{◌≡◌, refl, sym, ◌∙◌, ◌⊎◌, inl, inr, [], arith}
use Rattle.plain_search.proofs.Outcomes.{none_taken, one_taken, stops_after, stops_below}
use Rattle.plain_search.proofs.search.search_from.Goals as goal
use Rattle.plain_search.proofs.search.search_from.Goals.{else-loop-test, then-loop-test+then-is_done}

pub loop-init : goal.loop-init
loop-init c =
    let start = c.requires.start in
    record { taken = none_taken c.args.search.project start.0 c.args.search start.1 start.2; searcher = c.requires.searcher }

pub take-requires : goal.take-requires
take-requires c = c.loop.invariant.searcher ∙ sym c.loop.invariant.taken.project

pub loop-preserved : goal.loop-preserved
loop-preserved c = record {
  taken = one_taken c.args.search.project c.loop.counter c.loop.search c.in_ok-search.search
      c.loop.invariant.taken (λ none. let done = c.if-is_done.ensures.1 none in cc) c.in_ok-search.ensures.project
      c.in_ok-search.ensures.taken;
  searcher = c.take.ensures.searcher ∙ c.loop.invariant.searcher;
}

pub returns-clause-true_of : goal.returns-clause-true_of
returns-clause-true_of c = rw c.loop.invariant.taken.project at c.into_outcome.ensures.true_of

pub returns-clause-takes : goal.returns-clause-takes
returns-clause-takes c =
    let ends : (c.loop.search.nodes ≡ []) ⊎ (c.loop.counter ≡ c.args.takes) = elim c.loop-test.branch [
      | else-loop-test w ↦ inr (omega arith)
      | then-loop-test+then-is_done w ↦ inl (w.if-is_done.ensures.0 refl)
    ] in
    stops_after c.args.search.project c.loop.counter c.args.takes c.loop.search c.into_outcome.result
    c.loop.invariant.taken ends c.into_outcome.ensures.outcome

pub returns-clause-below_best : goal.returns-clause-below_best
returns-clause-below_best c = stops_below c.loop.search c.into_outcome.result c.into_outcome.ensures.outcome
