use Rattle.std.proofs.Common.{◌≡◌, sym, ap, ◌∙◌, ◌++◌, ◌∷◌, [], ◌<◌, ◌+◌, map, take, length, Some, arith, rules, w64, SFits}
use Rattle.std.proofs.lemmas.Int.{to_z-of_z}
use Rattle.std.proofs.lemmas.List.{take_more, map-append}
use Rattle.std.specs.Arc.{arc_value}
use Rattle.branching.specs.Subproblem.{Subproblem}
use Rattle.branching.specs.Right.{IsLeast}
use Rattle.branching.proofs.Nodes.{least_of_one}
use Rattle.plain_search.specs.Takes.{bounds_of}
use Rattle.plain_search.proofs.search.least_bound.Goals as goal

pub loop-node-preserved : goal.loop-node-preserved
loop-node-preserved c =
    let lt : c.loop-node.node-index < length c.args.nodes.now = omega arith in
    let more = take_more c.args.nodes.now c.loop-node.node-index c.node-item.result lt in
    let items : map arc_value (take (c.loop-node.node-index + 1) c.args.nodes.now) ≡ map arc_value
    (take c.loop-node.node-index c.args.nodes.now) ++ arc_value c.node-item.result ∷ [] =
    ap (map arc_value) (more ∙ ap (λ x. take c.loop-node.node-index c.args.nodes.now ++ x ∷ []) (sym c.node-item.is))
    ∙ map-append arc_value (take c.loop-node.node-index c.args.nodes.now) (c.node-item.result ∷ []) in
    let same : c.bound.result ≡ (arc_value c.node-item.result).bound = c.bound.ensures.bound ∙ ap (λ (n : Subproblem). n.bound) c.deref.ensures in
    let fits : SFits w64 c.bound.result = search rules in
    let own : IsLeast ((arc_value c.node-item.result).bound ∷ []) (Some c.bound.result) = rw same (least_of_one (arc_value c.node-item.result).bound) in
    let both = c.lesser-least.ensures (bounds_of (map arc_value (take c.loop-node.node-index c.args.nodes.now)))
    ((arc_value c.node-item.result).bound ∷ []) c.loop-node.invariant (simp to_z-of_z own) in
    rw (items, map-append (λ (n : Subproblem). n.bound) (map arc_value (take c.loop-node.node-index c.args.nodes.now)) (arc_value c.node-item.result ∷ [])) both
