use Rattle.std.proofs.Common.{◌∙◌, sym, ap, subst, ◌∷◌, map}
use Rattle.std.specs.List.{All}
use Rattle.std.specs.Arc.{arc_value}
use Rattle.std.proofs.lemmas.List.Elements.{All-head, All-tail}
use Rattle.branching.specs.Subproblem.{Subproblem}
use Rattle.book.specs.State.{node_named}
use Rattle.book.specs.Steps.{GoesBefore}
use Rattle.book.specs.OpenNodes.{open_node, IsFiled, Rank, NodeOwners}
use Rattle.book.proofs.Filing.{goes_before_others}
use Rattle.book.proofs.open_nodes.OpenNodes.pop_first.Goals as goal

pub invariant_of-self-2 : goal.invariant_of-self-2
invariant_of-self-2 c =
    let first : Rank × NodeOwners = (c.in_ok-rank.rank, c.in_ok-rank.opened) in
    All-tail IsFiled first c.pop_first.new.self.entries (subst (All IsFiled) c.in_ok-rank.ensures.removal c.self.invariant)

pub returns-clause-popped : goal.returns-clause-popped
returns-clause-popped c =
    let others = c.pop_first.new.self.entries in
    sym c.self.view_is
    ∙ (ap (map open_node) c.in_ok-rank.ensures.removal
    ∙ ap (λ (n : Subproblem). node_named c.in_ok-rank.rank.name.0 n ∷ map open_node others) (sym (ap (λ p. arc_value p.0) c.into_owners-node.ensures)))

pub returns-clause-before : goal.returns-clause-before
returns-clause-before c =
    let first : Rank × NodeOwners = (c.in_ok-rank.rank, c.in_ok-rank.opened) in
    let others = c.pop_first.new.self.entries in
    let filed = subst (All IsFiled) c.in_ok-rank.ensures.removal c.self.invariant in
    subst (λ (n : Subproblem). All (GoesBefore (node_named c.in_ok-rank.rank.name.0 n)) (map open_node others))
    (sym (ap (λ p. arc_value p.0) c.into_owners-node.ensures))
    (goes_before_others first others (All-head IsFiled first others filed) c.in_ok-rank.ensures.all_above (All-tail IsFiled first others filed))

pub returns-clause-twin : goal.returns-clause-twin
returns-clause-twin c =
    let first : Rank × NodeOwners = (c.in_ok-rank.rank, c.in_ok-rank.opened) in
    let filed = subst (All IsFiled) c.in_ok-rank.ensures.removal c.self.invariant in
    ap (λ p. arc_value p.1) c.into_owners-node.ensures
    ∙ ((All-head IsFiled first c.pop_first.new.self.entries filed).twin
    ∙ sym (ap (λ p. arc_value p.0) c.into_owners-node.ensures))
