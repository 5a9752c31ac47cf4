use Rattle.std.proofs.Common.{length}
use Rattle.bounds.proofs.Ranked.{order_has_keys, order_kept, keys_long}
use Rattle.bounds.proofs.load.sort_tasks.Goals as goal

pub repair-requires : goal.repair-requires
repair-requires c = order_has_keys (length c.args.tasks.now) c.list_keys.new.keys c.args.order.now c.requires.order
    (keys_long c.args.ends.now c.args.tasks.now c.list_keys.new.keys c.list_keys.ensures)

pub returns-clause-order : goal.returns-clause-order
returns-clause-order c = order_kept (length c.args.tasks.now) c.args.order.now c.repair.new.order c.requires.order c.repair.ensures.kept
