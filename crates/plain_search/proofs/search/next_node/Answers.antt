use Rattle.std.proofs.Common.{◌≡◌, ◌++◌, ◌∷◌, [], ap, ◌∙◌, rules, map, w64, SFits}
use Rattle.std.specs.Arc.{arc_value}
use Rattle.std.proofs.lemmas.Int.{to_z-of_z}
use Rattle.std.proofs.lemmas.List.{map-append}
use Rattle.branching.specs.Subproblem.{Subproblem}
use Rattle.branching.specs.Right.{Reaches}
use Rattle.branching.proofs.Covers.{reached_not_under}
use Rattle.plain_search.proofs.Takes.{drop_one}
use Rattle.plain_search.proofs.search.next_node.Goals as goal

pub loop-node-preserved : goal.loop-node-preserved
loop-node-preserved c =
    let fits : SFits w64 c.bound.result = search rules in
    let popped : map arc_value c.loop-node.stack.items ≡ map arc_value c.pop.new.self.items ++ arc_value c.in-Some.node
    ∷ [] = ap (map arc_value) c.in-Some.ensures.items
    ∙ map-append arc_value c.pop.new.self.items (c.in-Some.node ∷ []) in
    let same : c.bound.result ≡ (arc_value c.in-Some.node).bound = c.bound.ensures.bound ∙ ap (λ (n : Subproblem). n.bound) c.deref.ensures in
    let reached : Reaches c.args.ceiling c.bound.result = simp to_z-of_z at c.if-is_below.ensures.reached in
    drop_one c.args.ceiling _ _ (arc_value c.in-Some.node)
    (rw same at (reached_not_under c.args.ceiling c.bound.result reached)) (rw popped at c.loop-node.invariant)
