use Rattle.std.proofs.Common.{◌≡◌, take, string_bytes}
use Rattle.std.specs.List.{flat_map}
use Rattle.answers.specs.Answers.{violation_line}
use Rattle.answers.proofs.texts.violations_text.Given as goal

abbrev pub invariant-loop-violation : goal.invariant-loop-violation
invariant-loop-violation l = string_bytes l.out ≡ flat_map violation_line (take l.violation-index l.found)
