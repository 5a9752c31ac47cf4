use Rattle.forbidden_sets.specs.declared.shrinking.Demand.{Demand}
use Rattle.forbidden_sets.proofs.Shrunken.{needed_after}
use Rattle.forbidden_sets.proofs.shrinking.spared.Goals as goal

pub returns-else-rest-loads-clause-needed : goal.returns-else-rest-loads-clause-needed
returns-else-rest-loads-clause-needed c =
    let none : Demand = record { demand = 0; activity = 0 } in
    needed_after c.args.capacity c.args.loads.now c.loop-count.count c.loop-count.rest c.requires.order
    c.loop-count.invariant none (λ lt. c.if-rest-loads.false)
