use Rattle.std.proofs.Common.{ℕ, ◌<◌, ◌∙◌, List, ◌++◌, length, map, reverse, ap}
use Rattle.network.specs.declared.parts.Pair.{Pair}
use Rattle.network.specs.Problem.{NameActivities}
use Rattle.search_record.specs.Due.{later_at, nodes_due, DueNodes, due_split}
use Rattle.search_record.proofs.Steps.{split_due, split_along, named_pairs}
use Rattle.search_record.proofs.due.Due.split.Goals as goal

pub invariant_of-self : goal.invariant_of-self
invariant_of-self c =
    let node = c.self.inside.node in
    let named : NameActivities node.project c.in_ok-pairs.pairs.items =
    rw c.in_ok-pairs.ensures (named_pairs node.project c.args.members.now
    (rw (ap (λ (d : DueNodes). d.project) c.self.view_is) c.requires.named)) in
    let some : 0 < length (nodes_due c.self.inside.is_there node.pairs (reverse c.self.inside.later.items)) =
    rw (ap (λ (d : DueNodes). d.nodes) c.self.view_is) c.requires.there in
    split_along c.self.inside.is_there node (reverse c.self.inside.later.items) (reverse c.push_later.new.later.items)
    c.depth-depth.result c.depth-depth.ensures some c.self.invariant
    (c.push_later.ensures.nested node.project named)

pub invariant_of-self-2 : goal.invariant_of-self-2
invariant_of-self-2 c =
    let node = c.self.inside.node in
    let named : NameActivities node.project c.in_ok-pairs.pairs.items =
    rw c.in_ok-pairs.ensures (named_pairs node.project c.args.members.now
    (rw (ap (λ (d : DueNodes). d.project) c.self.view_is) c.requires.named)) in
    let some : 0 < length (nodes_due c.self.inside.is_there node.pairs (reverse c.self.inside.later.items)) =
    rw (ap (λ (d : DueNodes). d.nodes) c.self.view_is) c.requires.there in
    split_along c.self.inside.is_there node (reverse c.self.inside.later.items) (reverse c.push_later.new.later.items)
    c.depth-depth.result c.depth-depth.ensures some c.self.invariant
    (c.push_later.ensures.nested node.project named)

pub returns-clause-nodes : goal.returns-clause-nodes
returns-clause-nodes c =
    let inside = c.self.inside in
    let node = c.self.inside.node in
    let later = reverse inside.later.items in
    let some : 0 < length (nodes_due inside.is_there node.pairs later) = rw (ap (λ (d : DueNodes). d.nodes) c.self.view_is) c.requires.there in
    c.in_ok-leave.ensures.nodes
    ∙ split_due inside.is_there node.pairs later (reverse c.push_later.new.later.items) c.args.members.now
    (c.in_ok-push_later.ensures.added
    ∙ ap (λ (depth : ℕ). map (later_at depth) c.in_ok-pairs.pairs.items ++ later) c.depth-depth.ensures
    ∙ ap (λ (added : List Pair). map (later_at (length node.pairs)) added ++ later) c.in_ok-pairs.ensures)
    c.self.invariant.over some
    ∙ ap (λ (d : DueNodes). due_split c.args.members.now d.nodes) c.self.view_is
