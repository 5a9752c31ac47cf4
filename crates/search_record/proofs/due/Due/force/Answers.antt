use Rattle.std.proofs.Common.{◌∙◌, reverse, ap}
use Rattle.std.proofs.lemmas.Result.{on_ok_weaker}
use Rattle.branching.specs.Path.{Path}
use Rattle.search_record.specs.Due.{nodes_due, DueNodes, IsDueAlong, due_forced}
use Rattle.search_record.proofs.Steps.{either, forced_along, forced_due}
use Rattle.search_record.proofs.due.Due.force.Goals as goal

pub invariant_of-self : goal.invariant_of-self
invariant_of-self c =
    let later = reverse c.self.inside.later.items in
    either (IsDueAlong c.self.inside.is_there c.add.new.self later) _ _ c.add.result c.add.ensures.added c.add.ensures.unchanged
    (λ added. forced_along c.self.inside.is_there c.self.inside.node c.add.new.self later c.args.pair c.self.invariant added)
    (λ same. rw same c.self.invariant)

pub returns-clause-nodes : goal.returns-clause-nodes
returns-clause-nodes c =
    let node = c.self.inside.node in
    let later = reverse c.self.inside.later.items in
    on_ok_weaker c.add.result (λ added.
    ap (λ (n : Path). nodes_due c.self.inside.is_there n.pairs later) added
    ∙ forced_due node.project c.self.inside.is_there node.pairs later c.args.pair c.self.invariant.nested c.self.invariant.over
    ∙ ap (λ (d : DueNodes). due_forced c.args.pair d.nodes) c.self.view_is) c.add.ensures.added
