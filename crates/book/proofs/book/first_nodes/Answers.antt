use Rattle.std.proofs.Common.{[], ◌∷◌, inl, subst, rules}
use Rattle.std.specs.Arc.{arc_value}
use Rattle.std.specs.List.Sorted.{IsPermutation}
use Rattle.branching.specs.Subproblem.{Subproblem}
use Rattle.branching.specs.Fair.{IsRootOf}
use Rattle.book.specs.State.{Named}
use Rattle.book.specs.OpenNodes.{Inserts}
use Rattle.book.proofs.Steps.{only_order}
use Rattle.book.proofs.book.first_nodes.Goals as goal

pub returns : goal.returns
returns c =
    let root : Subproblem = arc_value c.in-Ok.root in
    let is_root : IsRootOf (arc_value c.args.project.now) root = search rules in
    let goes_in : Inserts 0 root c.new-nodes.result c.insert.new.self = search rules in
    let first : Named = record { name = 0; node = root } in
    let moved : IsPermutation (first ∷ []) c.insert.new.self =
    subst (λ ns. IsPermutation (first ∷ ns) c.insert.new.self) c.new-nodes.ensures goes_in.nodes in
    inl (root, is_root, only_order first c.insert.new.self moved)
