use Rattle.std.proofs.Common.{[], arith}
use Rattle.network.proofs.FaultLaws.{appended_more}
use Rattle.bounds.specs.Energy.{tasks_of}
use Rattle.bounds.proofs.resource_buffers.ResourceBuffers.new.Goals as goal

pub loop-resource-preserved : goal.loop-resource-preserved
loop-resource-preserved c = appended_more (tasks_of c.args.project.now) 0 c.loop-resource.resource
    c.loop-resource.resource _ [] c.loop-resource.buffers.items c.push.new.self.items c.loop-resource.invariant
    c.in_ok-push.ensures.items (omega arith) c.in_ok-new.ensures
