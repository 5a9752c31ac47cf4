use Rattle.std.proofs.Common.{◌≡◌, ◌++◌, take}
use Rattle.profile.specs.Overloads.{all_overloads}
use Rattle.schedule_check.specs.Violations.{overload_violations}
use Rattle.schedule_check.proofs.violation.push_overloads.Given as goal

abbrev pub invariant-loop-overload : goal.invariant-loop-overload
invariant-loop-overload l = record {
  all : l.overload-items ≡ all_overloads l.project l.starts;
  listed : l.violations.items ≡ l.fn.violations.items ++ overload_violations (take l.overload-index l.overload-items);
}
