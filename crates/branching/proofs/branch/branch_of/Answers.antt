use Rattle.std.proofs.Common.{refl, ap, ◌∙◌, rules, ◌≤ℤ◌, ◌∷◌, ◌++◌, [], w64, SFits}
use Rattle.std.proofs.lemmas.Int.{to_z-of_z}
use Rattle.network.specs.Problem.{pair_arc}
use Rattle.network.specs.Walk.{IsProjectMatrix, Rows}
use Rattle.longest_path.specs.Insert.{rows_over}
use Rattle.bounds.specs.Bound.{critical_weight, IsBoundOf, IsBoundWith, IsBoundUnder}
use Rattle.bounds.proofs.WithLaws.{IsBoundWith-exists}
use Rattle.branching.specs.Subproblem.{BaseOf, Subproblem, child_of}
use Rattle.branching.specs.Right.{IsUnder, Reaches}
use Rattle.branching.proofs.Nodes.{matrix_with}
use Rattle.branching.proofs.Forcings.{none_forced, cut_from, cut_by_least, child_at}
use Rattle.branching.proofs.branch.branch_of.Goals as goal
use Rattle.branching.proofs.branch.branch_of.Goals.{Else-is_infeasible_with}

-- the matrix with the pair
matrix_over : (c : Else-is_infeasible_with)
    → IsProjectMatrix c.args.node.now.project (c.args.node.now.pairs ++ c.args.pair ∷ [])
    (rows_over (pair_arc c.args.node.now.project c.args.pair) c.args.matrix.now.rows)
matrix_over c = matrix_with c.args.node.now c.args.pair c.args.matrix.now.rows c.requires.tied c.requires.named
    (rw c.matrix-rows.ensures at c.if-is_infeasible_with.ensures.live)

pub returns-then-not-is_below-clause-branch : goal.returns-then-not-is_below-clause-branch
returns-then-not-is_below-clause-branch c =
    let node : Subproblem = c.args.node.now in
    let over : Rows = rows_over (pair_arc node.project c.args.pair) c.args.matrix.now.rows in
    let m = matrix_over (goal.at.returns-then-not-is_below-clause-branch c).Else-is_infeasible_with in
    let fits : SFits w64 c.least_with.result = search rules in
    let low : c.least_with.result ≤ℤ critical_weight over = rw c.matrix-rows.ensures at c.least_with.ensures in
    let reaches : Reaches c.args.ceiling c.least_with.result = simp to_z-of_z at c.if-not-is_below.ensures.reached in
    rw c.new-then-not-is_below.ensures.items (cut_by_least node c.args.ceiling c.args.pair over c.least_with.result (none_forced _ _ _ m) low reaches)

pub bound_under-bound-requires-clause-named : goal.bound_under-bound-requires-clause-named
bound_under-bound-requires-clause-named c = rw (c.deref-2.ensures ∙ c.project-2.ensures.project) c.requires.named

pub bound_under-bound-requires-clause-lives : goal.bound_under-bound-requires-clause-lives
bound_under-bound-requires-clause-lives c = rw (c.deref-2.ensures ∙ c.project-2.ensures.project) c.if-is_infeasible_with.ensures.live

pub returns-then-not-is_below-2-clause-branch : goal.returns-then-not-is_below-2-clause-branch
returns-then-not-is_below-2-clause-branch c =
    let node : Subproblem = c.args.node.now in
    let over : Rows = rows_over (pair_arc node.project c.args.pair) c.args.matrix.now.rows in
    let m = matrix_over (goal.at.returns-then-not-is_below-2-clause-branch c).Else-is_infeasible_with in
    let fits : SFits w64 c.bound_under-bound.result = search rules in
    let has = IsBoundWith-exists node.project c.args.pair c.args.matrix.now.rows c.requires.named
    (rw c.matrix-rows.ensures at c.if-is_infeasible_with.ensures.live) in
    let of : IsBoundOf node.project over has.0 = has.1 node.pairs over c.requires.tied.matrix m in
    let under : IsBoundUnder node.project c.args.matrix.now.rows c.args.pair c.args.ceiling c.bound_under-bound.result =
    rw (c.deref-2.ensures ∙ c.project-2.ensures.project, c.matrix-rows.ensures) at c.bound_under-bound.ensures.value
    in
    let low : c.bound_under-bound.result ≤ℤ has.0 = under.low has.0 has.1 in
    let reaches : Reaches c.args.ceiling c.bound_under-bound.result = simp to_z-of_z at c.if-not-is_below-2.ensures.reached in
    rw c.new-then-not-is_below-2.ensures.items
    (cut_from node c.args.ceiling c.args.pair [] over has.0 c.bound_under-bound.result (none_forced _ _ _ m) of low
    reaches)

pub forces_some-requires-clause-rows : goal.forces_some-requires-clause-rows
forces_some-requires-clause-rows c = rw (c.deref.ensures ∙ c.project.ensures.project)
    (rw (ap (λ (b : BaseOf). b.project) c.deref-else-is_none.ensures ∙ c.base.ensures) at c.incompatible.ensures)

pub forces_some-requires-clause-named : goal.forces_some-requires-clause-named
forces_some-requires-clause-named c = rw (c.deref.ensures ∙ c.project.ensures.project) c.requires.named

pub returns-clause-branch : goal.returns-clause-branch
returns-clause-branch c =
    let node : Subproblem = c.args.node.now in
    let over : Rows = rows_over (pair_arc node.project c.args.pair) c.args.matrix.now.rows in
    let m = matrix_over (goal.at.returns-clause-branch c).Else-is_infeasible_with in
    let fits : SFits w64 c.bound_under-bound.result = search rules in
    let under : IsUnder c.args.ceiling c.bound_under-bound.result = simp to_z-of_z at c.if-not-is_below-2.ensures.below in
    let told : IsBoundUnder node.project c.args.matrix.now.rows c.args.pair c.args.ceiling c.bound_under-bound.result =
    rw (c.deref-2.ensures ∙ c.project-2.ensures.project, c.matrix-rows.ensures) at c.bound_under-bound.ensures.value
    in
    let with_pair : IsBoundWith node.project c.args.matrix.now.rows c.args.pair c.bound_under-bound.result = told.exact under in
    let of : IsBoundOf node.project over c.bound_under-bound.result = with_pair node.pairs over c.requires.tied.matrix m in
    let child : Subproblem = child_of node c.args.pair [] c.bound_under-bound.result in
    simp to_z-of_z (rw c.new-forced.ensures.items
    (child_at node child c.args.ceiling c.args.pair [] over c.bound_under-bound.result (none_forced _ _ _ m) of
    under refl))
