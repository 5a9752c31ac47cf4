use Rattle.std.proofs.Common.{◌≡◌, ◌≤◌, ◌-◌, length, take}
use Rattle.std.specs.Io.KnownBytes.{Appends}
use Rattle.devices.proofs.device.write_all.Given as goal

abbrev pub invariant-loop-start : goal.invariant-loop-start
invariant-loop-start g l = record {
  within : l.start ≤ length l.bytes;
  taken : Appends (g.O.Output.held l.fn.output) (g.O.Output.held l.output) (take l.start l.bytes);
  count : g.O.Output.failed l.output ≡ g.O.Output.failed l.fn.output;
}

abbrev pub decreases-loop-start : goal.decreases-loop-start
decreases-loop-start g l = length l.initial.bytes - l.start
