use Rattle.std.proofs.Common.{◌≡◌, ◌≤◌, take}
use Rattle.std.specs.List.{sum_by}
use Rattle.network.specs.Problem.{demand}
use Rattle.schedule_check.proofs.members.is_forbidden.Given as goal

abbrev pub invariant-loop-member : goal.invariant-loop-member
invariant-loop-member l = record {
  so_far : l.total ≡ sum_by (demand l.project l.resource) (take l.member-index l.members);
  within : l.total ≤ l.capacity;
}
