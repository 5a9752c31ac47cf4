use Rattle.std.proofs.Common.{rules}
use Rattle.run_tests.proofs.workers.desks.ends_at.Goals as goal

pub join-one-requires-after_bounds : goal.join-one-requires-after_bounds
join-one-requires-after_bounds g c κs within = (search rules, search rules)
