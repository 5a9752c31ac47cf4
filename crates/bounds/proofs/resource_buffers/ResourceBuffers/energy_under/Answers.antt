use Rattle.std.proofs.Common.{nat_cmp, ◌≡◌, ◌∙◌, subst, sym, ℕ, ◌+◌, ◌<◌, ◌≤◌, List, ℤ, arith}
use Rattle.network.specs.Problem.{Problem, resource_count}
use Rattle.std.specs.Ordering.{ord_max}
use Rattle.bounds.specs.Energy.{IsResourceEnergy}
pub use Rattle.bounds.specs.declared.limits.TheConstants.{MAX_ENVELOPE}
use Rattle.bounds.proofs.LateWork.{ord_max-max}
use Rattle.bounds.proofs.Energies.{IsEnergyUpTo, energy_more, energy_stopped, energy_whole}
use Rattle.bounds.proofs.resource_buffers.ResourceBuffers.energy_under.Goals as goal

more : (p : Problem) (heads tails : List ℤ) (k e n both : ℕ) → k < resource_count p → IsEnergyUpTo p heads tails k e
    → IsResourceEnergy p heads tails k n → n ≤ MAX_ENVELOPE → both ≡ ord_max nat_cmp e n
    → IsEnergyUpTo p heads tails (k + 1) both
more p heads tails k e n both in_range before of_resource small is =
    subst (IsEnergyUpTo p heads tails (k + 1)) (sym (is ∙ ord_max-max e n)) (energy_more p heads tails k e n in_range before of_resource small)

pub returns-then-energy-ceiling-clause-value : goal.returns-then-energy-ceiling-clause-value
returns-then-energy-ceiling-clause-value c =
    let in_range : c.loop-resource.resource < resource_count c.args.project.now = omega arith in
    energy_stopped c.args.project.now c.args.heads.now c.args.tails.now (c.loop-resource.resource + 1) c.max-energy.result c.args.ceiling
    (more c.args.project.now c.args.heads.now c.args.tails.now c.loop-resource.resource c.loop-resource.energy
    c.resource_energy.result c.max-energy.result in_range c.loop-resource.invariant.energy
    c.resource_energy.ensures.value c.resource_energy.ensures.limit c.max-energy.ensures)
    (omega (arith, c.if-energy-ceiling.true))

pub loop-resource-preserved : goal.loop-resource-preserved
loop-resource-preserved c =
    let in_range : c.loop-resource.resource < resource_count c.args.project.now = omega arith in
    record {
      same = c.resource_energy.ensures.buffers ∙ c.loop-resource.invariant.same;
      energy = more c.args.project.now c.args.heads.now c.args.tails.now c.loop-resource.resource c.loop-resource.energy
          c.resource_energy.result c.max-energy.result in_range c.loop-resource.invariant.energy
          c.resource_energy.ensures.value c.resource_energy.ensures.limit c.max-energy.ensures;
    }

pub returns-clause-value : goal.returns-clause-value
returns-clause-value c =
    let all : c.loop-resource.resource ≡ resource_count c.args.project.now =
    omega (arith, c.resource_count-resource-end.ensures.value, c.loop-resource.auto.resource-end) in
    energy_whole c.args.project.now c.args.heads.now c.args.tails.now c.loop-resource.energy c.args.ceiling (rw all at c.loop-resource.invariant.energy)
