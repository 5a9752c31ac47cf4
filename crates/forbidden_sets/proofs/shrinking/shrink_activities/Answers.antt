use Rattle.std.proofs.Common.{◌≡◌, ◌<◌, ◌-◌, ◌∙◌, refl, ap, map, length, take, drop, arith, take_all, length-drop}
use Rattle.std.specs.List.{All}
use Rattle.std.proofs.lemmas.List.Elements.{All-contains}
use Rattle.network.specs.Problem.{demand, capacity, activity_count}
use Rattle.forbidden_sets.specs.declared.shrinking.Demand.{Demand}
use Rattle.forbidden_sets.specs.MinimalSet.{AreShrunk, MinimalSet}
use Rattle.forbidden_sets.proofs.Shrunken.{is_minimal_set, is_minimal_forbidden, length_rising, loads_few, shrunk}
use Rattle.forbidden_sets.proofs.shrinking.shrink_activities.Goals as goal
use Rattle.forbidden_sets.proofs.shrinking.shrink_activities.Goals.{In_ok-members}

pub spared-count-requires-clause-few : goal.spared-count-requires-clause-few
spared-count-requires-clause-few c =
    let few = length_rising c.args.activities.now _ c.requires.rising c.requires.activities in
    let many = c.capacity-capacity.ensures.limits.activity_limit in
    rw c.as_slice-loads.ensures (omega (arith, few, many, loads_few _ _ _ c.in_ok-loads.ensures.loads))

are_shrunk : (c : In_ok-members) → AreShrunk (demand c.args.project.now c.args.resource)
    (capacity c.args.project.now c.args.resource) c.args.activities.now c.in_ok-members.members.items
are_shrunk c =
    let loads : c.as_slice-loads.result.now ≡ c.in_ok-loads.loads.items = c.as_slice-loads.ensures in
    let rest : take (length c.in_ok-loads.loads.items - c.spared-count.result)
    (drop c.spared-count.result c.in_ok-loads.loads.items) ≡ drop c.spared-count.result c.in_ok-loads.loads.items =
    take_all (length c.in_ok-loads.loads.items - c.spared-count.result)
    (drop c.spared-count.result c.in_ok-loads.loads.items) (omega (arith, length-drop {A = Demand})) in
    shrunk (demand c.args.project.now c.args.resource) (capacity c.args.project.now c.args.resource)
    c.args.activities.now c.in_ok-loads.loads.items c.spared-count.result c.in_ok-members.members.items
    c.requires.rising
    c.in_ok-loads.ensures.loads
    (rw (loads, c.capacity-capacity.ensures.value) at c.spared-count.ensures.forbidden)
    (rw (loads, c.capacity-capacity.ensures.value) at c.spared-count.ensures.needed)
    (rw (loads, rest) at c.in_ok-members.ensures.moved)
    c.in_ok-members.ensures.rising

named : (c : In_ok-members) → All (λ i. i < activity_count c.args.project.now) c.in_ok-members.members.items
named c k d l = All-contains (λ i. i < activity_count c.args.project.now) _ _ c.requires.activities ((are_shrunk c).run k d l)

pub demands_of-requires-clause-members : goal.demands_of-requires-clause-members
demands_of-requires-clause-members c = rw c.as_slice.ensures (named (goal.at.demands_of-requires-clause-members c).In_ok-members)

pub new-requires : goal.new-requires
new-requires c =
    is_minimal_set _ _ (demand c.args.project.now c.args.resource) _ _ _ _ _ (are_shrunk (goal.at.new-requires c).In_ok-members)
    refl
    (c.in_ok-demands.ensures ∙ ap (map (demand c.args.project.now c.args.resource)) c.as_slice.ensures)
    c.capacity-capacity.ensures.value

pub returns-clause-among : goal.returns-clause-among
returns-clause-among c =
    let members : c.new.result.members ≡ c.in_ok-members.members.items = ap (λ (s : MinimalSet). s.members) c.new.ensures in
    rw members (are_shrunk (goal.at.returns-clause-among c).In_ok-members).run

pub returns-clause-minimal : goal.returns-clause-minimal
returns-clause-minimal c =
    let members : c.new.result.members ≡ c.in_ok-members.members.items = ap (λ (s : MinimalSet). s.members) c.new.ensures in
    rw members (is_minimal_forbidden _ _ _ _ (are_shrunk (goal.at.returns-clause-minimal c).In_ok-members))

pub returns-clause-few : goal.returns-clause-few
returns-clause-few c =
    let members : c.new.result.members ≡ c.in_ok-members.members.items = ap (λ (s : MinimalSet). s.members) c.new.ensures in
    let shrunk = are_shrunk (goal.at.returns-clause-few c).In_ok-members in
    rw members (length_rising _ _ shrunk.rising (named (goal.at.returns-clause-few c).In_ok-members))
