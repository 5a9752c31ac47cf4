use Rattle.profile.proofs.Counted.{have_times}
use Rattle.profile.proofs.counting.Count.pass.Goals as goal

pub next_time-requires : goal.next_time-requires
next_time-requires c = have_times c.args.project.now c.loop-next.self c.loop-next.invariant.count.sized
