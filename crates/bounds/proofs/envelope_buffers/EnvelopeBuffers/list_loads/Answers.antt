use Rattle.std.proofs.Common.{◌≡◌, sym, ap, ◌∙◌, List, length, map, reverse, ℕ, ℤ}
use Rattle.bounds.specs.Loads.{keyed_load}
use Rattle.bounds.proofs.Ranked.{order_long, order_below, keys_are_ends, loads_moved, loads_from_order, refilled}
use Rattle.bounds.proofs.envelope_buffers.EnvelopeBuffers.list_loads.Goals as goal
use Rattle.bounds.proofs.envelope_buffers.EnvelopeBuffers.list_loads.Goals.{After-as_slice-3}

order_read : (c : After-as_slice-3) → c.as_slice.result.now ≡ c.sort_tasks.new.order
order_read c = c.as_slice.ensures.value ∙ refilled c.args.self.now.by_head c.sort_tasks.new.order
    (c.sort_tasks.auto.order ∙ ap length c.as_mut_slice.ensures.value)

pub list_loads-requires-clause-places : goal.list_loads-requires-clause-places
list_loads-requires-clause-places c = rw (order_read (goal.at.list_loads-requires-clause-places c).After-as_slice-3)
    (order_below (length c.args.tasks.now) c.sort_tasks.new.order c.sort_tasks.ensures.order)

pub list_loads-requires-clause-loads : goal.list_loads-requires-clause-loads
list_loads-requires-clause-loads c =
    ap length c.as_mut_slice-3.ensures.value ∙ c.requires.buffers.loads_long
    ∙ sym (ap length (order_read (goal.at.list_loads-requires-clause-loads c).After-as_slice-3)
    ∙ order_long (length c.args.tasks.now) c.sort_tasks.new.order c.sort_tasks.ensures.order)

pub returns-clause-loads : goal.returns-clause-loads
returns-clause-loads c =
    let order : List ℕ = c.sort_tasks.new.order in
    let keys : List ℤ = c.sort_tasks.new.keys in
    let keys_read : c.as_slice-2.result.now ≡ keys = c.as_slice-2.ensures.value
    ∙ refilled c.args.self.now.keys keys (c.sort_tasks.auto.keys ∙ ap length c.as_mut_slice-2.ensures.value) in
    let is : c.list_loads.new.loads ≡ map (keyed_load keys c.args.self.now.ranks.items c.args.tasks.now) (reverse order) =
    rw (keys_read, order_read (goal.at.returns-clause-loads c).After-as_slice-3, c.as_slice-3.ensures.value) at c.list_loads.ensures in
    rw (refilled c.args.self.now.loads c.list_loads.new.loads (c.list_loads.auto.loads ∙ ap length c.as_mut_slice-3.ensures.value), is)
    (record {
      keys = keys;
      of_heads = c.sort_tasks.ensures.keys;
      whole = loads_moved keys c.args.self.now.ranks.items c.args.tasks.now order c.sort_tasks.ensures.order;
      falling = loads_from_order (length keys) keys c.args.self.now.ranks.items c.args.tasks.now order
          (keys_are_ends c.args.heads.now c.args.tasks.now keys c.requires.heads c.requires.activities
          c.sort_tasks.ensures.keys) c.sort_tasks.ensures.order c.sort_tasks.ensures.rising;
    })
