use Rattle.std.proofs.Common.{ap, ◌∙◌}
use Rattle.std.specs.Arc.{arc_value}
use Rattle.branching.proofs.Covers.{none_on_cycle}
use Rattle.plain_search.specs.Takes.{SearchState}
use Rattle.plain_search.proofs.search.search_alone.Goals as goal

pub returns-in-Err-PositiveCycle-clause-true_of : goal.returns-in-Err-PositiveCycle-clause-true_of
returns-in-Err-PositiveCycle-clause-true_of c =
    let top = rw (c.in-Err-PositiveCycle.field-0-is, c.in_ok-try_clone.ensures) at c.in-Err-PositiveCycle.ensures.fault in
    let reached = top.reached in
    record { verdict = none_on_cycle (arc_value c.args.project.now) (reached.0, reached.1, reached.2); found = tt }

pub returns-clause-takes : goal.returns-clause-takes
returns-clause-takes c =
    let project = ap (λ (s : SearchState). s.project) c.in_ok-search.ensures ∙ c.in_ok-project.ensures in
    rw project at c.search_from.ensures.takes
