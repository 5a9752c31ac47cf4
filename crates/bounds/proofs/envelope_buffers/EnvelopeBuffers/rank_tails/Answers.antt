use Rattle.std.proofs.Common.{sym, ap, ◌∙◌, length, arith}
use Rattle.profile.specs.Orders.{IsOrder}
use Rattle.bounds.specs.Loads.{AreKeysOf}
use Rattle.bounds.proofs.Ranked.{order_long, order_has_keys, keys_are_ends, keys_long, ranked_tasks, refilled}
use Rattle.bounds.proofs.envelope_buffers.EnvelopeBuffers.rank_tails.Goals as goal
use Rattle.bounds.proofs.envelope_buffers.EnvelopeBuffers.rank_tails.Goals.{After-as_slice-2}

is_order : (c : After-as_slice-2) → IsOrder (length c.args.tasks.now) c.as_slice.result.now
is_order c = rw (
  c.as_slice.ensures.value,
  refilled c.args.self.now.by_tail c.sort_tasks.new.order
      (c.sort_tasks.auto.order ∙ ap length c.as_mut_slice.ensures.value),
) c.sort_tasks.ensures.order

are_keys : (c : After-as_slice-2) → AreKeysOf c.args.tails.now c.args.tasks.now c.as_slice-2.result.now
are_keys c = c.as_slice-2.ensures.value ∙ refilled c.args.self.now.keys c.sort_tasks.new.keys
    (c.sort_tasks.auto.keys ∙ ap length c.as_mut_slice-2.ensures.value) ∙ c.sort_tasks.ensures.keys

pub rank_keys-requires-clause-places : goal.rank_keys-requires-clause-places
rank_keys-requires-clause-places c =
    let read = (goal.at.rank_keys-requires-clause-places c).After-as_slice-2 in
    order_has_keys (length c.args.tasks.now) c.as_slice-2.result.now c.as_slice.result.now (is_order read)
    (keys_long c.args.tails.now c.args.tasks.now c.as_slice-2.result.now (are_keys read))

pub rank_keys-requires-clause-above : goal.rank_keys-requires-clause-above
rank_keys-requires-clause-above c = keys_are_ends c.args.tails.now c.args.tasks.now c.as_slice-2.result.now
    c.requires.tails c.requires.activities (are_keys (goal.at.rank_keys-requires-clause-above c).After-as_slice-2)

pub rank_keys-requires-clause-rising : goal.rank_keys-requires-clause-rising
rank_keys-requires-clause-rising c =
    ap length c.as_mut_slice-4.ensures.value ∙ c.requires.buffers.rising_long
    ∙ sym (order_long (length c.args.tasks.now) c.as_slice.result.now (is_order (goal.at.rank_keys-requires-clause-rising c).After-as_slice-2))

pub returns-clause-few : goal.returns-clause-few
returns-clause-few c = omega (
  arith,
  c.rank_keys.ensures.few,
  order_long (length c.args.tasks.now) c.as_slice.result.now
      (is_order (goal.at.returns-clause-few c).After-as_slice-2),
)

pub returns-clause-ranked : goal.returns-clause-ranked
returns-clause-ranked c =
    let read = (goal.at.returns-clause-ranked c).After-as_slice-2 in
    let long = c.rank_keys.auto.rising ∙ ap length c.as_mut_slice-4.ensures.value in
    rw (
      refilled c.args.self.now.rising c.rank_keys.new.rising long,
      refilled c.args.self.now.ranks c.rank_keys.new.ranks
          (c.rank_keys.auto.ranks ∙ ap length c.as_mut_slice-3.ensures.value),
    )
    (ranked_tasks c.args.tails.now c.args.tasks.now c.as_slice-2.result.now c.as_slice.result.now c.rank_keys.new.rising
    c.rank_keys.new.ranks c.rank_keys.result (are_keys read) (is_order read) c.rank_keys.ensures
    (omega (arith, c.rank_keys.ensures.few, order_long (length c.args.tasks.now) c.as_slice.result.now (is_order read), long, c.requires.buffers.rising_long)))
