use Rattle.std.proofs.Common.{ℕ, map, ◌≡◌, ap, ◌∙◌}
use Rattle.std.specs.Arc.{arc_value}
use Rattle.std.specs.List.{All}
use Rattle.network.specs.Schedule.{IsMinimalForbidden, running}
use Rattle.forbidden_sets.specs.MinimalSet.{MinimalSet}
use Rattle.branching.specs.Subproblem.{Subproblem, ordered_pairs}
use Rattle.branching.specs.Right.{IsRightSet}
use Rattle.branching.specs.Fates.{fate_value, AreFates}
use Rattle.branching.specs.Fair.{IsNewTo}
use Rattle.network.proofs.Schedules.{running_below, running_rising}
use Rattle.branching.proofs.Together.{run_together, minimal_together, new_pairs, named_pairs, report_split}
use Rattle.branching.proofs.expansion.report_split.Goals as goal

pub shrink_activities-requires-clause-activities : goal.shrink_activities-requires-clause-activities
shrink_activities-requires-clause-activities c =
    let runs : c.running-running.result.now ≡ running (arc_value c.args.node.now).project c.args.starts.now
    c.args.overload.time = c.running-running.ensures ∙ c.requires.running in
    let same : c.deref-2.result.now ≡ (arc_value c.args.node.now).project = c.deref-2.ensures
    ∙ c.project.ensures.project ∙ ap (λ (n : Subproblem). n.project) c.deref.ensures in
    rw same (running_below (arc_value c.args.node.now).project c.args.starts.now c.args.overload.time _ runs)

pub shrink_activities-requires-clause-rising : goal.shrink_activities-requires-clause-rising
shrink_activities-requires-clause-rising c =
    let runs : c.running-running.result.now ≡ running (arc_value c.args.node.now).project c.args.starts.now
    c.args.overload.time = c.running-running.ensures ∙ c.requires.running in
    running_rising (arc_value c.args.node.now).project c.args.starts.now c.args.overload.time _ runs

pub branches_of-requires-clause-named : goal.branches_of-requires-clause-named
branches_of-requires-clause-named c =
    let runs : c.running-running.result.now ≡ running (arc_value c.args.node.now).project c.args.starts.now
    c.args.overload.time = c.running-running.ensures ∙ c.requires.running in
    let pairs : c.as_slice-pairs.result.now ≡ ordered_pairs c.in_ok-set.set.members = c.as_slice-pairs.ensures.value
    ∙ c.in_ok-put_ordered_pairs.ensures ∙ ap ordered_pairs c.members.ensures.members in
    let together = run_together (arc_value c.args.node.now).project c.args.starts.now c.args.overload.time _
    c.in_ok-set.set.members runs c.in_ok-set.ensures.among in
    rw (c.deref-3.ensures, pairs) (named_pairs (arc_value c.args.node.now).project c.args.starts.now c.args.overload.time c.in_ok-set.set.members together)

pub new-requires-2 : goal.new-requires-2
new-requires-2 c =
    let runs : c.running-running.result.now ≡ running (arc_value c.args.node.now).project c.args.starts.now
    c.args.overload.time = c.running-running.ensures ∙ c.requires.running in
    let node : Subproblem = arc_value c.args.node.now in
    let t = c.args.overload.time in
    let k : ℕ = c.args.overload.resource in
    let set : MinimalSet = c.in_ok-set.set in
    let same : c.deref-2.result.now ≡ node.project = c.deref-2.ensures ∙ c.project.ensures.project ∙ ap (λ (n : Subproblem). n.project) c.deref.ensures in
    let pairs : c.as_slice-pairs.result.now ≡ ordered_pairs set.members = c.as_slice-pairs.ensures.value
    ∙ c.in_ok-put_ordered_pairs.ensures ∙ ap ordered_pairs c.members.ensures.members in
    let minimal : IsMinimalForbidden node.project k set.members = rw same at c.in_ok-set.ensures.minimal in
    let run = run_together node.project c.args.starts.now t _ set.members runs c.in_ok-set.ensures.among in
    let together : IsRightSet node.project k set.members =
    minimal_together node.project c.args.starts.now t k _ set.members c.requires.first.least_resource.in_range runs
    c.in_ok-set.ensures.among minimal in
    let right : IsRightSet node.project set.resource set.members = rw c.in_ok-set.ensures.resource together in
    let new : All (IsNewTo node) (ordered_pairs set.members) = new_pairs node c.args.starts.now t set.members c.requires.earliest.least run in
    let are : AreFates node c.args.ceiling (ordered_pairs set.members) (map fate_value c.in_ok-made.made.fates.items)
    (map arc_value c.in_ok-made.made.children.items) = rw (c.deref-3.ensures, pairs) at c.in_ok-made.ensures.fates
    in
    rw c.in_ok-node.ensures (report_split node c.args.ceiling set _ _ c.requires.tied.is_node right new are)
