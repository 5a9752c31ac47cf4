use Rattle.std.proofs.Common.{◌∙◌, pos, arith}
use Rattle.network.specs.Schedule.{start}
use Rattle.bounds.specs.declared.task.Task.{Task}
use Rattle.bounds.proofs.Ranked.{map_written}
use Rattle.bounds.proofs.load.list_keys.Goals as goal

pub returns : goal.returns
returns c = map_written (record { activity = 0; work = 0 }) (pos 0) (λ (t : Task). start c.args.ends.now t.activity)
    c.args.tasks.now c.loop-i.keys (c.loop-i.auto.keys ∙ c.requires.long) (λ k lt. c.loop-i.invariant k (omega arith))
