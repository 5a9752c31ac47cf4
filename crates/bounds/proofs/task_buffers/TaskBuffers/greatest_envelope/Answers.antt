use Rattle.std.proofs.Common.{rules, ℤ, ℕ, List, length, take}
use Rattle.bounds.specs.declared.task.Task.{Task}
use Rattle.bounds.specs.Loads.{AreTailsOf, AreLoadsOf, AreRanked, AreRankedLoads, Load}
use Rattle.bounds.proofs.LateWork.{loads_limited, tails_limited}
use Rattle.bounds.proofs.Ranked.{ranked_loads}
use Rattle.bounds.proofs.task_buffers.TaskBuffers.greatest_envelope.Goals as goal
use Rattle.bounds.proofs.task_buffers.TaskBuffers.greatest_envelope.Goals.{After-list_loads}

record AreOrdered (heads tails : List ℤ) (tasks : List Task) (rising : List ℕ) (loads : List Load) : Type 0 where
  of_tails : AreTailsOf tails tasks rising
  of_loads : AreLoadsOf heads tails rising tasks loads

ordered : (c : After-list_loads) → AreOrdered c.args.heads.now c.args.tails.now c.args.self.now
    (take c.rank_tails-count.result c.list_loads.new.self.rising.items) c.list_loads.new.self.loads.items
ordered c =
    let ranked : AreRanked c.args.tails.now c.args.self.now c.rank_tails-count.new.self.rising.items
    c.rank_tails-count.new.self.ranks.items c.rank_tails-count.result =
    rw (c.as_slice.ensures.value, c.self.view_is) at c.rank_tails-count.ensures.ranked in
    let loads : AreRankedLoads c.args.heads.now c.rank_tails-count.new.self.ranks.items c.args.self.now
    c.list_loads.new.self.loads.items = rw (c.as_slice-2.ensures.value, c.self.view_is) at
    c.list_loads.ensures.loads in
    rw c.list_loads.ensures.rising (record {
      of_tails = ranked.of_tails;
      of_loads = ranked_loads c.args.heads.now c.args.tails.now c.args.self.now c.rank_tails-count.new.self.rising.items
          c.rank_tails-count.new.self.ranks.items c.rank_tails-count.result c.list_loads.new.self.loads.items ranked
          loads;
    })

pub envelope_under-requires : goal.envelope_under-requires
envelope_under-requires c =
    let are = ordered (goal.at.envelope_under-requires c).After-list_loads in
    let rising : List ℕ = take c.rank_tails-count.result c.list_loads.new.self.rising.items in
    record {
      count = search rules;
      line = search rules;
      widths = search rules;
      loads = rw (c.as_slice-3.ensures.value, c.as_slice-4.ensures.value)
          (loads_limited (length c.args.heads.now) c.args.heads.now c.args.tails.now rising c.args.self.now
          c.list_loads.new.self.loads.items c.requires.heads c.requires.tasks are.of_tails are.of_loads);
      capacity = search rules;
      tails = rw c.as_slice-4.ensures.value (tails_limited (length c.args.heads.now) c.args.tails.now rising
          c.args.self.now c.requires.tails c.requires.tasks are.of_tails);
      up = rw c.as_slice-4.ensures.value are.of_tails.up;
    }

pub returns-clause-greatest : goal.returns-clause-greatest
returns-clause-greatest c =
    let are = ordered (goal.at.returns-clause-greatest c).After-list_loads in
    record {
      rising = take c.rank_tails-count.result c.list_loads.new.self.rising.items;
      loads = c.list_loads.new.self.loads.items;
      of_tails = are.of_tails;
      of_loads = are.of_loads;
      greatest = rw (c.as_slice-3.ensures.value, c.as_slice-4.ensures.value) at c.envelope_under.ensures.greatest;
    }
