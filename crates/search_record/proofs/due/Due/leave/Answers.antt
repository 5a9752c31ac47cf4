use Rattle.std.proofs.Common.{◌≡◌, ◌∙◌, List, [], ◌∷◌, ◌++◌, reverse, sym, ap, take, drop}
use Rattle.network.specs.declared.parts.Pair.{Pair}
use Rattle.branching.specs.Path.{Path}
use Rattle.search_record.specs.Due.{nodes_due, DueNodes, IsDueAlong, Later}
use Rattle.search_record.proofs.Steps.{either, kept_along, forced_along, left_due, last_later}
use Rattle.search_record.proofs.due.Due.leave.Goals as goal

pub invariant_of-self : goal.invariant_of-self
invariant_of-self c =
    let node = c.self.inside.node in
    let behind = reverse c.pop.new.self.items in
    let before : reverse c.self.inside.later.items ≡ c.in-Some.later ∷ behind =
    ap (λ (l : List Later). reverse l) c.in-Some.ensures.items ∙ last_later c.pop.new.self.items c.in-Some.later in
    let along : IsDueAlong c.self.inside.is_there node (c.in-Some.later ∷ behind) = rw before at c.self.invariant in
    let kept : IsDueAlong c.self.inside.is_there c.keep.new.self behind =
    kept_along c.self.inside.is_there node c.keep.new.self c.in-Some.later behind along c.keep.ensures in
    either (IsDueAlong c.self.inside.is_there c.add.new.self behind) _ _ c.add.result c.add.ensures.added c.add.ensures.unchanged
    (λ added. forced_along c.self.inside.is_there c.keep.new.self c.add.new.self behind c.in-Some.later.pair kept added)
    (λ same. rw same kept)

pub returns-in_ok-add-in-Some-clause-nodes : goal.returns-in_ok-add-in-Some-clause-nodes
returns-in_ok-add-in-Some-clause-nodes c =
    let node = c.self.inside.node in
    let there = c.self.inside.is_there in
    let behind = reverse c.pop.new.self.items in
    let before : reverse c.self.inside.later.items ≡ c.in-Some.later ∷ behind =
    ap (λ (l : List Later). reverse l) c.in-Some.ensures.items ∙ last_later c.pop.new.self.items c.in-Some.later in
    let along : IsDueAlong there node (c.in-Some.later ∷ behind) = rw before at c.self.invariant in
    let moved : c.add.new.self.pairs ≡ take c.in-Some.later.depth node.pairs ++ c.in-Some.later.pair ∷ [] =
    ap (λ (n : Path). n.pairs) c.in_ok-add-in-Some.ensures.added ∙ ap (λ (n : Path). n.pairs ++ c.in-Some.later.pair ∷ []) c.keep.ensures in
    ap (λ (new : List Pair). nodes_due there new behind) moved
    ∙ left_due node.project there node.pairs c.in-Some.later behind along.nested along.over
    ∙ ap (λ (ks : List Later). drop 1 (nodes_due there node.pairs ks)) (sym before)
    ∙ ap (λ (d : DueNodes). drop 1 d.nodes) c.self.view_is
