use Rattle.std.proofs.Common.{◌≡◌}
use Rattle.bounds.proofs.Energies.{IsEnergyUpTo}
use Rattle.bounds.proofs.resource_buffers.ResourceBuffers.energy_under.Given as goal

abbrev pub invariant-loop-resource : goal.invariant-loop-resource
invariant-loop-resource l = record {
  same : l.self ≡ l.initial.self;
  energy : IsEnergyUpTo l.project l.heads l.tails l.resource l.energy;
}
