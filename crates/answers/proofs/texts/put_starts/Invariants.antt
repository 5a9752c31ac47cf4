use Rattle.std.proofs.Common.{◌≡◌, ◌++◌, drop, string_bytes}
use Rattle.answers.specs.Answers.{start_lines}
use Rattle.answers.proofs.texts.put_starts.Given as goal

abbrev pub invariant-loop-activity : goal.invariant-loop-activity
invariant-loop-activity l = string_bytes l.out ++ start_lines l.activity (drop l.activity l.starts) ≡ string_bytes l.initial.out ++ start_lines 0 l.starts
