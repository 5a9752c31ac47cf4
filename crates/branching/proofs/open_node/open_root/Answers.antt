use Rattle.std.proofs.Common.{◌≡◌, sym, subst, rules, [], w64, SFits}
use Rattle.std.specs.Arc.{arc_value}
use Rattle.std.proofs.lemmas.Int.{to_z-of_z}
use Rattle.network.specs.Problem.{IsProject, Problem, activity_count, arcs_of}
use Rattle.network.specs.Walk.{IsMatrixOf}
use Rattle.bounds.specs.Bound.{IsMatrixFor, IsBoundOf, IsTrueBoundFor}
use Rattle.branching.proofs.Nodes.{no_pairs, root_is_node, root_of}
use Rattle.branching.proofs.open_node.open_root.Goals as goal

pub bound-requires : goal.bound-requires
bound-requires c =
    let is : IsProject (arc_value c.args.project) = rw c.deref.ensures at c.activity_count.ensures.limits in
    let m : IsMatrixOf (activity_count (arc_value c.args.project)) (arcs_of (arc_value c.args.project) [])
    c.in_ok-matrix.matrix = rw c.deref-2.ensures at c.in_ok-matrix.ensures.matrix in
    subst (λ (q : Problem). IsMatrixFor q c.in_ok-matrix.matrix) (sym c.deref-3.ensures)
    (record { pairs = []; matrix = no_pairs (arc_value c.args.project) c.in_ok-matrix.matrix is m })

pub root-requires : goal.root-requires
root-requires c =
    let fits : SFits w64 c.in_ok-bound.bound = search rules in
    let is : IsProject (arc_value c.args.project) = rw c.deref.ensures at c.activity_count.ensures.limits in
    let m : IsMatrixOf (activity_count (arc_value c.args.project)) (arcs_of (arc_value c.args.project) [])
    c.in_ok-matrix.matrix = rw c.deref-2.ensures at c.in_ok-matrix.ensures.matrix in
    let bound_of : IsBoundOf (arc_value c.args.project) c.in_ok-matrix.matrix c.in_ok-bound.bound = rw c.deref-3.ensures at c.in_ok-bound.ensures.value in
    let holds : IsTrueBoundFor (arc_value c.args.project) c.in_ok-matrix.matrix c.in_ok-bound.bound = rw c.deref-3.ensures at c.in_ok-bound.ensures.holds in
    simp to_z-of_z (rw c.in_ok-base.ensures.project
    (root_is_node (arc_value c.args.project) c.in_ok-matrix.matrix c.in_ok-bound.bound
    (no_pairs (arc_value c.args.project) c.in_ok-matrix.matrix is m) bound_of holds))

pub returns-clause-root : goal.returns-clause-root
returns-clause-root c =
    let fits : SFits w64 c.in_ok-bound.bound = search rules in
    let is : IsProject (arc_value c.args.project) = rw c.deref.ensures at c.activity_count.ensures.limits in
    let m : IsMatrixOf (activity_count (arc_value c.args.project)) (arcs_of (arc_value c.args.project) [])
    c.in_ok-matrix.matrix = rw c.deref-2.ensures at c.in_ok-matrix.ensures.matrix in
    let bound_of : IsBoundOf (arc_value c.args.project) c.in_ok-matrix.matrix c.in_ok-bound.bound = rw c.deref-3.ensures at c.in_ok-bound.ensures.value in
    let holds : IsTrueBoundFor (arc_value c.args.project) c.in_ok-matrix.matrix c.in_ok-bound.bound = rw c.deref-3.ensures at c.in_ok-bound.ensures.holds in
    let built : arc_value c.in_ok-root.root ≡ record
    { project = arc_value c.args.project; pairs = []; bound = c.in_ok-bound.bound } =
    simp (to_z-of_z, c.in_ok-base.ensures.project) at c.in_ok-root.ensures in
    root_of (arc_value c.args.project) (arc_value c.in_ok-root.root) c.in_ok-bound.bound built
    (root_is_node (arc_value c.args.project) c.in_ok-matrix.matrix c.in_ok-bound.bound
    (no_pairs (arc_value c.args.project) c.in_ok-matrix.matrix is m) bound_of holds)
