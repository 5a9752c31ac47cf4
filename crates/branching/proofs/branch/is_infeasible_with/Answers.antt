use Rattle.std.proofs.Common.{◌≡◌, sym, ap, ◌∙◌, rules, ◌+ℤ◌, Some, ◌∷◌, ◌++◌, [], w64, SFits, to_z, of_z}
use Rattle.std.proofs.lemmas.Int.{to_z-of_z}
use Rattle.std.proofs.lemmas.Bool.{OnTrue_from, OnFalse_from}
use Rattle.network.specs.Problem.{Problem, duration, pair_arc}
use Rattle.network.specs.Walk.{entry}
use Rattle.longest_path.specs.Insert.{ClosesNone}
use Rattle.branching.specs.Right.{IsInfeasible}
use Rattle.branching.proofs.Nodes.{rows_of, ends_of, closes_over, closes_none, closes_none_without, sum_fits, positive_from, not_positive}
use Rattle.branching.proofs.branch.is_infeasible_with.Goals as goal
use Rattle.branching.proofs.branch.is_infeasible_with.Goals.{In-Some}

pub duration-duration-requires : goal.duration-duration-requires
duration-duration-requires c = rw (c.deref.ensures ∙ c.project.ensures.project) ((ends_of c.args.node.now.project c.args.pair c.requires.named).0)

pub get-requires-clause-from_activity : goal.get-requires-clause-from_activity
get-requires-clause-from_activity c = (rows_of c.args.node.now.project c.args.node.now.pairs c.args.matrix.now
    c.args.pair c.requires.tied.matrix c.requires.named).1

pub get-requires-clause-to_activity : goal.get-requires-clause-to_activity
get-requires-clause-to_activity c = (rows_of c.args.node.now.project c.args.node.now.pairs c.args.matrix.now c.args.pair
    c.requires.tied.matrix c.requires.named).0

-- the weight of the closed walk over the pair's arc
around : (c : In-Some) → to_z w64 (of_z w64
    (to_z w64 (of_z w64 c.in-Some.back) +ℤ to_z w64 (of_z w64 c.duration-duration.result))) ≡ c.in-Some.back +ℤ duration
    c.args.node.now.project c.args.pair.before
around c =
    let back_fits : SFits w64 c.in-Some.back = search rules in
    let long_fits : SFits w64 c.duration-duration.result = search rules in
    let fits : SFits w64 (c.in-Some.back +ℤ c.duration-duration.result) =
    sum_fits c.in-Some.back c.duration-duration.result c.in-Some.ensures.fits c.duration-duration.ensures.amount in
    simp to_z-of_z (ap (λ d. c.in-Some.back +ℤ d)
    (c.duration-duration.ensures.value ∙ ap (λ (p : Problem). duration p c.args.pair.before)
    (c.deref.ensures ∙ c.project.ensures.project)))

pub returns-in-Some-clause-infeasible : goal.returns-in-Some-clause-infeasible
returns-in-Some-clause-infeasible c =
    let sum_is = around (goal.at.returns-in-Some-clause-infeasible c).In-Some in
    let read : entry c.args.matrix.now c.args.pair.after c.args.pair.before ≡ Some c.in-Some.back = sym c.get.ensures.value ∙ c.in-Some.is in
    OnTrue_from _ (IsInfeasible c.args.node.now.project (c.args.node.now.pairs ++ c.args.pair ∷ [])) (λ test.
    closes_over c.args.node.now.project c.args.node.now.pairs c.args.pair c.args.matrix.now c.in-Some.back
    c.requires.named c.requires.tied.matrix.matrix read (positive_from _ (rw sum_is at test)))

pub returns-in-Some-clause-live : goal.returns-in-Some-clause-live
returns-in-Some-clause-live c =
    let sum_is = around (goal.at.returns-in-Some-clause-live c).In-Some in
    let read : entry c.args.matrix.now c.args.pair.after c.args.pair.before ≡ Some c.in-Some.back = sym c.get.ensures.value ∙ c.in-Some.is in
    OnFalse_from _ (ClosesNone (pair_arc c.args.node.now.project c.args.pair) c.args.matrix.now) (λ test.
    closes_none c.args.node.now.project c.args.pair c.args.matrix.now c.in-Some.back read (not_positive _ (rw sum_is at test)))

pub returns-in-None-clause-live : goal.returns-in-None-clause-live
returns-in-None-clause-live c = closes_none_without c.args.node.now.project c.args.pair c.args.matrix.now (sym c.get.ensures.value ∙ c.in-None.is)
