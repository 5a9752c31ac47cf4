use Rattle.std.proofs.Common.{◌≡◌, ◌++◌, take}
use Rattle.schedule_check.specs.Violations.{lag_violations}
use Rattle.schedule_check.proofs.violation.push_lags.Given as goal

abbrev pub invariant-loop-rule : goal.invariant-loop-rule
invariant-loop-rule l = l.violations.items ≡ l.fn.violations.items ++ lag_violations l.starts (take l.rule-index l.rules)
