use Rattle.std.proofs.Common.{ap, ◌++◌, ◌↔◌, IsTrue, Bool}
use Rattle.std.proofs.lemmas.Result.{IfOk-weaker}
use Rattle.network.specs.Walk.{IsProjectMatrix}
use Rattle.branching.specs.Path.{Path}
use Rattle.search_record.specs.Right.{IsRightLine}
use Rattle.search_record.proofs.node.TreeNode.is_right.Goals as goal

pub returns-in-Some : goal.returns-in-Some
returns-in-Some c =
    let here : IsProjectMatrix c.self.inside.project.now (c.self.inside.live.pairs ++ c.self.inside.dead.items)
    c.in-Some.matrix.now = rw (
      ap (λ (n : Path). n.project) c.self.view_is,
      ap (λ (n : Path). n.pairs) c.self.view_is,
    ) c.in-Some.ensures in
    IfOk-weaker c.is_right_by.result _ (λ (yes : Bool). IsTrue yes ↔ IsRightLine c.args.self.now.project c.args.limit c.args.self.now.pairs c.args.line.now)
    (λ yes right. rw (ap (λ (n : Path). n.project) c.self.view_is, ap (λ (n : Path). n.pairs) c.self.view_is) at
    (right (c.self.inside.live.pairs ++ c.self.inside.dead.items) here)) c.is_right_by.ensures
