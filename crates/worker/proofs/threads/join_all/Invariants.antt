use Rattle.std.proofs.Common.{◌≡◌, length, vec_len, vec_capacity}
use Rattle.worker.proofs.threads.join_all.Given as goal

abbrev pub invariant-loop-handle : goal.invariant-loop-handle
invariant-loop-handle g l = (vec_len l.ends ≡ length l.yielded) × (vec_capacity l.ends ≡ vec_capacity l.initial.ends)
