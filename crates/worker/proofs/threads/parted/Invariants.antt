use Rattle.std.proofs.Common.{◌≡◌, length, vec_len, vec_capacity}
use Rattle.worker.specs.Solving.{first_fault}
use Rattle.worker.proofs.threads.parted.Given as goal

abbrev pub invariant-loop-desk : goal.invariant-loop-desk
invariant-loop-desk g l = record {
  desks : vec_len l.desks ≡ length l.yielded;
  room : vec_capacity l.desks ≡ vec_capacity l.initial.desks;
  fault : l.fault ≡ first_fault l.yielded;
}
