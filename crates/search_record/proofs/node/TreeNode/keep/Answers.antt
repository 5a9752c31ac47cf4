use Rattle.std.proofs.Common.{◌≡◌, refl, sym, ap, ◌+◌, ◌++◌, length, take, arith}
use Rattle.std.proofs.Math.Seq.{take-append-add}
use Rattle.branching.specs.Path.{Path}
use Rattle.search_record.proofs.node.TreeNode.keep.Goals as goal

pub returns-in-Some : goal.returns-in-Some
returns-in-Some c =
    let count : c.args.count ≡ length c.self.inside.live.pairs + c.in-Some.dead = grind arith in
    let pairs : c.self.inside.live.pairs ++ c.truncate.new.self.items ≡ take c.args.count (c.self.inside.live.pairs ++ c.self.inside.dead.items) =
    rw (c.truncate.ensures.items, count) (sym (take-append-add c.self.inside.live.pairs c.self.inside.dead.items c.in-Some.dead)) in
    let old : c.self.inside.live.pairs ++ c.self.inside.dead.items ≡ c.args.self.now.pairs = ap (λ (n : Path). n.pairs) c.self.view_is in
    let project : c.self.inside.project.now ≡ c.args.self.now.project = ap (λ (n : Path). n.project) c.self.view_is in
    rw (pairs, old, project) refl
