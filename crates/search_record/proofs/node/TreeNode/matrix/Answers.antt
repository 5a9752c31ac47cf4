use Rattle.std.proofs.Common.{◌≡◌, ◌<◌, [], ◌++◌, ap, length, rules}
use Rattle.std.proofs.lemmas.List.{append-nil}
use Rattle.network.specs.Walk.{IsProjectMatrix}
use Rattle.branching.specs.Path.{Path}
use Rattle.branching.specs.Right.{IsInfeasible}
use Rattle.search_record.proofs.Decides.{dead_all}
use Rattle.search_record.proofs.node.TreeNode.matrix.Goals as goal

pub returns-then-is_empty : goal.returns-then-is_empty
returns-then-is_empty c =
    let none : c.self.inside.dead.items ≡ [] = search rules in
    let whole : IsProjectMatrix c.self.inside.project.now (c.self.inside.live.pairs ++ c.self.inside.dead.items) c.matrix.result.now =
    rw (c.matrix.ensures, none, append-nil c.self.inside.live.pairs) c.self.invariant.path.matrix in
    rw (ap (λ (n : Path). n.project) c.self.view_is, ap (λ (n : Path). n.pairs) c.self.view_is) at whole

pub returns : goal.returns
returns c =
    let some : 0 < length c.self.inside.dead.items = search rules in
    let dead : IsInfeasible c.self.inside.project.now (c.self.inside.live.pairs ++ c.self.inside.dead.items) =
    dead_all c.self.inside.project.now c.self.inside.live.pairs c.self.inside.dead.items some c.self.invariant.dead
    in
    rw (ap (λ (n : Path). n.project) c.self.view_is, ap (λ (n : Path). n.pairs) c.self.view_is) at dead
