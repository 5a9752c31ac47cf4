use Rattle.std.proofs.Common.{refl}
use Rattle.profile.specs.Counts.{counted_use}
use Rattle.profile.proofs.Swept.{overload_more, overload_none}
use Rattle.profile.proofs.sweep.push_overloaded.Goals as goal
use Rattle.profile.proofs.sweep.push_overloaded.Goals.{then-used-capacity+in_ok-push, else-used-capacity}

pub loop-resource-preserved : goal.loop-resource-preserved
loop-resource-preserved c =
    let use_of = counted_use c.args.started.now c.args.ended.now in
    let k = c.loop-resource.resource in
    elim c.if-used-capacity.branch [
      | then-used-capacity+in_ok-push w ↦ rw w.overloads-is
          (overload_more c.args.project.now _ _ use_of k _ c.capacity.result c.args.overloads.now.items
          c.loop-resource.overloads.items _ c.loop-resource.invariant w.in_ok-push.ensures.items refl refl
          c.capacity.ensures.value w.if-used-capacity.true)
      | else-used-capacity w ↦ rw w.overloads-is
          (overload_none c.args.project.now _ use_of k _ c.capacity.result c.args.overloads.now.items
          c.loop-resource.overloads.items c.loop-resource.invariant refl c.capacity.ensures.value
          w.if-used-capacity.false)
    ]
