use Rattle.std.proofs.Common.{◌≡◌, ◌++◌, take, string_bytes}
use Rattle.record_text.specs.Text.{spaced_times}
use Rattle.record_text.proofs.write.put_times.Given as goal

abbrev pub invariant-loop-time : goal.invariant-loop-time
invariant-loop-time l = string_bytes l.out ≡ string_bytes l.fn.out ++ spaced_times (take l.time-index l.times)
