use Rattle.std.proofs.Common.{take}
use Rattle.std.specs.List.{All}
use Rattle.schedule_check.specs.Members.{TakesTime}
use Rattle.schedule_check.proofs.members.all_take_time.Given as goal

abbrev pub invariant-loop-member : goal.invariant-loop-member
invariant-loop-member l = All (TakesTime l.project) (take l.member-index l.members)
