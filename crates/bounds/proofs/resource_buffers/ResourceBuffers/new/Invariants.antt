use Rattle.std.proofs.Common.{◌≡◌, map}
use Rattle.std.specs.List.{range_with_len}
use Rattle.bounds.specs.Energy.{tasks_of}
use Rattle.bounds.proofs.resource_buffers.ResourceBuffers.new.Given as goal

abbrev pub invariant-loop-resource : goal.invariant-loop-resource
invariant-loop-resource l = l.buffers.items ≡ map (tasks_of l.project) (range_with_len 0 l.resource)
