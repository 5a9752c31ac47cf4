use Rattle.std.proofs.Common.{◌≡◌, ◌-◌, ◌<◌, ◌≤◌, ◌∙◌, ap, arith, rules, length, pos, ℕ, w64, SFits}
use Rattle.std.proofs.lemmas.Int.{to_z-of_z}
use Rattle.std.proofs.lemmas.List.{get_or_read}
use Rattle.network.specs.Problem.{activity_count}
use Rattle.network.specs.Schedule.{start, makespan, IsWithinCapacities}
use Rattle.profile.specs.Overloads.{IsFirstOverload}
use Rattle.branching.specs.Right.{IsSolved}
use Rattle.search_record.proofs.Decides.{refused, solved_by, not_solved}
use Rattle.search_record.proofs.judge.is_solved.Goals as goal

pub first_overload-requires : goal.first_overload-requires
first_overload-requires c =
    let early = c.in_ok-starts.ensures.earliest c.args.project.now c.requires.pairs c.requires.matrix in
    record { starts = rw c.as_slice.ensures.value early.limits }

pub returns-in-Some : goal.returns-in-Some
returns-in-Some c = λ pairs m.
    let early = c.in_ok-starts.ensures.earliest c.args.project.now pairs m in
    let found : IsFirstOverload c.args.project.now c.in_ok-starts.starts.items c.in-Some.field-0.0.time
    c.in-Some.field-0.0.resource = rw c.as_slice.ensures.value at (rw c.in-Some.is at c.in_ok-found.ensures.first)
    in
    refused (IsSolved c.args.project.now pairs c.args.limit)
    (not_solved c.args.project.now pairs c.in_ok-starts.starts.items c.args.limit c.in-Some.field-0.0.time c.in-Some.field-0.0.resource early.least found)

pub index-requires : goal.index-requires
index-requires c =
    let early = c.in_ok-starts.ensures.earliest c.args.project.now c.requires.pairs c.requires.matrix in
    let two : 2 ≤ activity_count c.args.project.now = c.activity_count-end.ensures.limits.two_dummies in
    omega (arith, c.activity_count-end.ensures.value)

pub returns : goal.returns
returns c = λ pairs m.
    let early = c.in_ok-starts.ensures.earliest c.args.project.now pairs m in
    let within : IsWithinCapacities c.args.project.now c.in_ok-starts.starts.items =
    rw c.as_slice.ensures.value at (rw c.in-None.is at c.in_ok-found.ensures.none) in
    let end : c.activity_count-end.result - 1 ≡ length c.in_ok-starts.starts.items - 1 = omega (arith, c.activity_count-end.ensures.value) in
    let two : 2 ≤ activity_count c.args.project.now = c.activity_count-end.ensures.limits.two_dummies in
    let lt : c.activity_count-end.result - 1 < length c.in_ok-starts.starts.items = omega (arith, c.activity_count-end.ensures.value) in
    let value : c.index.result.now ≡ makespan c.in_ok-starts.starts.items =
    get_or_read c.in_ok-starts.starts.items (c.activity_count-end.result - 1) c.index.result.now lt c.index.ensures
    (pos 0) ∙ ap (λ (n : ℕ). start c.in_ok-starts.starts.items n) end in
    let limit_fits : SFits w64 c.args.limit = search rules in
    let value_fits : SFits w64 c.index.result.now = search rules in
    simp to_z-of_z (rw value (solved_by c.args.project.now pairs c.args.matrix.now c.in_ok-starts.starts.items c.args.limit m early.least within))
