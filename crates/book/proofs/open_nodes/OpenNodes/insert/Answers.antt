use Rattle.std.proofs.Common.{◌≡◌, ◌∙◌, sym, ap, map, rules, arith, subst, w64, to_z, of_z}
use Rattle.std.specs.List.{All}
use Rattle.std.proofs.lemmas.Int.{ints}
use Rattle.std.specs.Arc.{arc_value}
use Rattle.branching.specs.Subproblem.{Subproblem}
use Rattle.book.specs.OpenNodes.{open_node, IsFiled, IsNamedOtherThan}
use Rattle.book.proofs.Filing.{filed_after, inserted}
use Rattle.book.proofs.open_nodes.OpenNodes.insert.Goals as goal

pub invariant_of-self-2 : goal.invariant_of-self-2
invariant_of-self-2 c =
    let owner : arc_value c.in_ok-try_clone.field-0 ≡ arc_value c.args.node.now = search rules in
    let twin : arc_value c.in_ok-try_clone-2.field-0 ≡ arc_value c.args.node.now = search rules in
    let fresh : All (IsNamedOtherThan c.args.name) (map open_node c.self.inside.nodes.entries) = rw (c.self.view_is) c.requires in
    let fits : to_z w64 (of_z w64 c.bound-bound.result) ≡ c.bound-bound.result = omega (arith, ints) in
    let bound : to_z w64 (of_z w64 c.bound-bound.result) ≡ (arc_value c.args.node.now).bound = fits ∙ (search rules) in
    subst (All IsFiled) (sym c.in_ok-insert.ensures.entries)
    (filed_after c.self.inside.nodes.entries _ _ fresh
    (record { bound = bound ∙ ap (λ (n : Subproblem). n.bound) (sym owner); twin = twin ∙ sym owner })
    c.self.invariant)

pub returns-clause-ok : goal.returns-clause-ok
returns-clause-ok c =
    let owner : arc_value c.in_ok-try_clone.field-0 ≡ arc_value c.args.node.now = search rules in
    let fresh : All (IsNamedOtherThan c.args.name) (map open_node c.self.inside.nodes.entries) = rw (c.self.view_is) c.requires in
    rw (← c.self.view_is) (inserted c.self.inside.nodes.entries _ _ _ (arc_value c.args.node.now) fresh c.in_ok-insert.ensures.entries owner)
