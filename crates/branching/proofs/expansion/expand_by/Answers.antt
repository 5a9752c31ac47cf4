use Rattle.std.proofs.Common.{◌≡◌, None, [], ap, ◌∙◌, rules, w64, SFits, Result, Ok, Err, IfOk}
use Rattle.std.proofs.lemmas.Int.{to_z-of_z}
use Rattle.std.specs.Arc.{arc_value}
use Rattle.branching.specs.Subproblem.{Subproblem, IsNode}
pub use Rattle.std.specs.declared.alloc.AllocError.{AllocError}
use Rattle.branching.specs.Right.{IsUnder, Reaches}
use Rattle.branching.specs.Fair.{Expansion}
use Rattle.branching.proofs.Together.{report_cut}
use Rattle.branching.proofs.Covers.{reached_over}
use Rattle.branching.proofs.expansion.expand_by.Goals as goal
use Rattle.branching.proofs.expansion.expand_by.Goals.{Else-not-is_below}

-- at a node below the ceiling nothing is to be shown
not_over : {P : Type 0} (result : Result Expansion AllocError) → P → IfOk result (λ report. ¬ P → (report.found ≡ None) × (report.children ≡ []))
not_over (Ok report) under = λ over. absurd (over under)
not_over (Err e) under = tt

pub new-requires : goal.new-requires
new-requires c =
    let node : Subproblem = arc_value c.args.node.now in
    let is : IsNode node = rw c.deref.ensures at c.bound.ensures.is_node in
    let bound_is : c.bound.result ≡ node.bound = c.bound.ensures.bound ∙ ap (λ (n : Subproblem). n.bound) c.deref.ensures in
    let fits : SFits w64 c.bound.result = search rules in
    let reaches : Reaches c.args.ceiling c.bound.result = simp to_z-of_z at c.if-not-is_below.ensures.reached in
    rw (c.new-fates.ensures.items, c.new-children.ensures.items, c.in_ok-node.ensures)
    (report_cut node c.args.ceiling is (rw bound_is at reaches)
    (λ s stands. reached_over c.args.ceiling c.bound.result s reaches (rw bound_is (is.true_bound s stands))))

pub first-requires-clause-starts : goal.first-requires-clause-starts
first-requires-clause-starts c =
    let same : c.deref-3.result.now ≡ (arc_value c.args.node.now).project = c.deref-3.ensures
    ∙ c.project.ensures.project ∙ ap (λ (n : Subproblem). n.project) c.deref-2.ensures in
    let earliest = c.in_ok-starts.ensures.earliest (arc_value c.args.node.now).project (arc_value c.args.node.now).pairs
    (rw c.matrix.ensures c.requires.tied.matrix) in
    rw (same, c.as_slice.ensures.value) earliest.limits

pub report_split-report-requires-clause-earliest : goal.report_split-report-requires-clause-earliest
report_split-report-requires-clause-earliest c =
    rw c.as_slice-least.ensures.value (c.in_ok-starts.ensures.earliest (arc_value c.args.node.now).project
    (arc_value c.args.node.now).pairs (rw c.matrix.ensures c.requires.tied.matrix))

pub report_found-requires-clause-earliest : goal.report_found-requires-clause-earliest
report_found-requires-clause-earliest c =
    c.in_ok-starts.ensures.earliest (arc_value c.args.node.now).project (arc_value c.args.node.now).pairs
    (rw c.matrix.ensures c.requires.tied.matrix)

-- the node's bound is below the ceiling
below : (c : Else-not-is_below) → IsUnder c.args.ceiling (arc_value c.args.node.now).bound
below c =
    let bound_is : c.bound.result ≡ (arc_value c.args.node.now).bound = c.bound.ensures.bound ∙ ap (λ (n : Subproblem). n.bound) c.deref.ensures in
    let fits : SFits w64 c.bound.result = search rules in
    let under : IsUnder c.args.ceiling c.bound.result = simp to_z-of_z at c.if-not-is_below.ensures.below in
    rw bound_is at under

pub returns-in-Some-clause-over : goal.returns-in-Some-clause-over
returns-in-Some-clause-over c = not_over _ (below (goal.at.returns-in-Some-clause-over c).Else-not-is_below)

pub returns-in-None-clause-over : goal.returns-in-None-clause-over
returns-in-None-clause-over c = not_over _ (below (goal.at.returns-in-None-clause-over c).Else-not-is_below)
