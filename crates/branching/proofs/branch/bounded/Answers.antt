use Rattle.std.proofs.Common.{refl, ◌∙◌, rules, ◌≤ℤ◌, w64, List, ◌∷◌, [], ◌++◌, SFits}
use Rattle.std.specs.List.{Contains}
use Rattle.std.proofs.lemmas.Int.{to_z-of_z}
use Rattle.std.proofs.lemmas.List.Elements.{Contains-append_left, Contains-push}
use Rattle.network.specs.declared.parts.Pair.{Pair}
use Rattle.network.specs.Problem.{Problem}
use Rattle.network.specs.Walk.{Rows}
use Rattle.bounds.specs.Bound.{IsBoundOf, IsBoundWith, IsBoundUnder}
use Rattle.bounds.proofs.WithLaws.{IsBoundWith-exists}
use Rattle.branching.specs.Subproblem.{Subproblem, child_of}
use Rattle.branching.specs.Right.{IsUnder, Reaches}
use Rattle.branching.proofs.Forcings.{cut_from, child_at}
use Rattle.branching.proofs.Again.{again, closes_none_again}
use Rattle.branching.proofs.branch.bounded.Goals as goal

pub bound_under-bound-requires-clause-workspace : goal.bound_under-bound-requires-clause-workspace
bound_under-bound-requires-clause-workspace c = rw (c.deref.ensures ∙ c.project.ensures.project) c.requires.bounds

pub bound_under-bound-requires-clause-matrix : goal.bound_under-bound-requires-clause-matrix
bound_under-bound-requires-clause-matrix c =
    rw (c.deref.ensures ∙ c.project.ensures.project)
    (record {
      pairs = (c.args.node.now.pairs ++ c.args.first ∷ []) ++ c.args.forced.items;
      matrix =
          c.requires.matrix.matrix;
    })

pub bound_under-bound-requires-clause-named : goal.bound_under-bound-requires-clause-named
bound_under-bound-requires-clause-named c = rw (c.deref.ensures ∙ c.project.ensures.project) c.requires.named

pub bound_under-bound-requires-clause-lives : goal.bound_under-bound-requires-clause-lives
bound_under-bound-requires-clause-lives c =
    let pairs : List Pair = (c.args.node.now.pairs ++ c.args.first ∷ []) ++ c.args.forced.items in
    let at : Contains pairs c.args.first =
    Contains-append_left (c.args.node.now.pairs ++ c.args.first ∷ []) c.args.forced.items c.args.first
    (Contains-push c.args.node.now.pairs c.args.first) in
    rw (c.deref.ensures ∙ c.project.ensures.project)
    (closes_none_again c.args.node.now.project pairs c.args.first c.args.matrix.now at c.requires.matrix.matrix)

pub returns-then-not-is_below-clause-branch : goal.returns-then-not-is_below-clause-branch
returns-then-not-is_below-clause-branch c =
    let p : Problem = c.args.node.now.project in
    let rows : Rows = c.args.matrix.now in
    let pairs : List Pair = (c.args.node.now.pairs ++ c.args.first ∷ []) ++ c.args.forced.items in
    let at : Contains pairs c.args.first =
    Contains-append_left (c.args.node.now.pairs ++ c.args.first ∷ []) c.args.forced.items c.args.first
    (Contains-push c.args.node.now.pairs c.args.first) in
    let fits : SFits w64 c.bound_under-bound.result = search rules in
    let has = IsBoundWith-exists p c.args.first rows c.requires.named (closes_none_again p pairs c.args.first rows at c.requires.matrix.matrix) in
    let of : IsBoundOf p rows has.0 = has.1 pairs rows c.requires.matrix.matrix (again p pairs c.args.first rows at c.requires.matrix.matrix) in
    let under : IsBoundUnder p rows c.args.first c.args.ceiling c.bound_under-bound.result =
    rw (c.deref.ensures ∙ c.project.ensures.project) at c.bound_under-bound.ensures.value in
    let low : c.bound_under-bound.result ≤ℤ has.0 = under.low has.0 has.1 in
    let reaches : Reaches c.args.ceiling c.bound_under-bound.result = simp to_z-of_z at c.if-not-is_below.ensures.reached in
    cut_from c.args.node.now c.args.ceiling c.args.first c.args.forced.items rows has.0 c.bound_under-bound.result c.requires.matrix of low reaches

pub returns-clause-branch : goal.returns-clause-branch
returns-clause-branch c =
    let pairs : List Pair = (c.args.node.now.pairs ++ c.args.first ∷ []) ++ c.args.forced.items in
    let at : Contains pairs c.args.first =
    Contains-append_left (c.args.node.now.pairs ++ c.args.first ∷ []) c.args.forced.items c.args.first
    (Contains-push c.args.node.now.pairs c.args.first) in
    let fits : SFits w64 c.bound_under-bound.result = search rules in
    let under : IsUnder c.args.ceiling c.bound_under-bound.result = simp to_z-of_z at c.if-not-is_below.ensures.below in
    let told : IsBoundUnder c.args.node.now.project c.args.matrix.now c.args.first c.args.ceiling
    c.bound_under-bound.result = rw (c.deref.ensures ∙ c.project.ensures.project) at
    c.bound_under-bound.ensures.value in
    let with_first : IsBoundWith c.args.node.now.project c.args.matrix.now c.args.first c.bound_under-bound.result = told.exact under in
    let of : IsBoundOf c.args.node.now.project c.args.matrix.now c.bound_under-bound.result =
    with_first pairs c.args.matrix.now c.requires.matrix.matrix
    (again c.args.node.now.project pairs c.args.first c.args.matrix.now at c.requires.matrix.matrix) in
    let child : Subproblem = child_of c.args.node.now c.args.first c.args.forced.items c.bound_under-bound.result in
    simp to_z-of_z (child_at c.args.node.now child c.args.ceiling c.args.first c.args.forced.items c.args.matrix.now
    c.bound_under-bound.result c.requires.matrix of under refl)
