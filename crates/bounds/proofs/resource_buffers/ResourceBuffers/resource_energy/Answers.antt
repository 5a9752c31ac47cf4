use Rattle.std.proofs.Common.{◌≡◌, ap, ◌∙◌, subst, ℕ, ◌<◌, max, List, length, get_or, arith}
use Rattle.std.specs.Int.{div_ceil}
use Rattle.std.proofs.lemmas.List.FromFn.{get_or-map-range_with_len, length-map-range_with_len}
use Rattle.network.specs.Problem.{Problem, resource_count, capacity}
use Rattle.bounds.specs.Energy.{tasks_of, all_tasks, Task}
use Rattle.bounds.specs.Loads.{IsGreatestEnvelopeOf}
use Rattle.bounds.proofs.Tasks.{tasks_limited}
use Rattle.bounds.proofs.Energies.{resource_envelope, resource_limit}
use Rattle.bounds.proofs.resource_buffers.ResourceBuffers.resource_energy.Goals as goal

buffers_long : (p : Problem) (buffers : List (List Task)) → buffers ≡ all_tasks p → length buffers ≡ resource_count p
buffers_long p buffers are = ap length are ∙ length-map-range_with_len (tasks_of p) 0 (resource_count p)

tasks_at : (p : Problem) (buffers : List (List Task)) (k : ℕ) (d : List Task) → buffers ≡ all_tasks p → k < resource_count p → get_or buffers k d ≡ tasks_of p k
tasks_at p buffers k d are lt = ap (λ (rs : List (List Task)). get_or rs k d) are
    ∙ get_or-map-range_with_len (tasks_of p) 0 (resource_count p) k k d lt (omega arith)

pub index_mut-requires : goal.index_mut-requires
index_mut-requires c = omega (arith, c.requires.resource, buffers_long c.args.project.now c.self.inside.buffers.items (c.self.view_is ∙ c.requires.buffers))

pub greatest_envelope-envelope-requires-clause-tasks : goal.greatest_envelope-envelope-requires-clause-tasks
greatest_envelope-envelope-requires-clause-tasks c =
    let p : Problem = c.args.project.now in
    let k : ℕ = c.args.resource in
    rw (
      c.index_mut.ensures.value,
      tasks_at p c.self.inside.buffers.items k c.index_mut.result.now
          (c.self.view_is ∙ c.requires.buffers) c.requires.resource,
      c.requires.heads.count,
    )
    (tasks_limited p k c.capacity-capacity.ensures.limits c.requires.resource)

found : (c : goal.After-max) → IsGreatestEnvelopeOf (capacity c.args.project.now c.args.resource) c.args.heads.now
    c.args.tails.now (tasks_of c.args.project.now c.args.resource) c.greatest_envelope-envelope.result
found c =
    let p : Problem = c.args.project.now in
    let k : ℕ = c.args.resource in
    let g : ℕ = c.greatest_envelope-envelope.result in
    let tasks_are : c.index_mut.result.now ≡ tasks_of p k = c.index_mut.ensures.value
    ∙ tasks_at p c.self.inside.buffers.items k c.index_mut.result.now (c.self.view_is ∙ c.requires.buffers)
    c.requires.resource in
    subst (λ (ts : List Task). IsGreatestEnvelopeOf (capacity p k) c.args.heads.now c.args.tails.now ts g) tasks_are
    (subst (λ (r : ℕ). IsGreatestEnvelopeOf r c.args.heads.now c.args.tails.now c.index_mut.result.now g)
    c.capacity-capacity.ensures.value c.greatest_envelope-envelope.ensures.greatest)

max_is : (c : goal.After-max) → c.max.result ≡ max c.args.ends (div_ceil c.greatest_envelope-envelope.result (capacity c.args.project.now c.args.resource))
max_is c = c.max.ensures ∙ ap (λ (d : ℕ). max c.args.ends d)
    (c.div_ceil.ensures ∙ ap (div_ceil c.greatest_envelope-envelope.result) c.capacity-capacity.ensures.value)

some : (c : goal.After-max) → 0 < capacity c.args.project.now c.args.resource
some c = omega (arith, c.if-capacity-eq0.false, c.capacity-capacity.ensures.value)

pub returns-clause-value : goal.returns-clause-value
returns-clause-value c =
    rw (max_is c) (resource_envelope c.args.project.now c.args.heads.now c.args.tails.now c.args.resource
    c.greatest_envelope-envelope.result c.args.ends c.requires.heads c.requires.tails c.requires.resource (some c)
    c.requires.ends (found c))

pub returns-clause-limit : goal.returns-clause-limit
returns-clause-limit c =
    rw (max_is c) (resource_limit c.args.project.now c.args.heads.now c.args.tails.now c.args.resource
    c.greatest_envelope-envelope.result c.args.ends c.requires.heads c.requires.tails (some c) c.requires.ends
    c.greatest_envelope-envelope.ensures.limit)
