use Rattle.std.proofs.Common.{◌∙◌, sym, ap, subst, map, rules}
use Rattle.std.specs.List.{All}
use Rattle.std.proofs.lemmas.Map.Made.{filter_same_pairs}
use Rattle.std.proofs.lemmas.List.Elements.{All-filter}
use Rattle.book.specs.OpenNodes.{open_node, IsFiled}
use Rattle.book.proofs.Filing.{is_older_entry, older_nodes}
use Rattle.book.proofs.open_nodes.OpenNodes.keep_older.Goals as goal

pub invariant_of-self : goal.invariant_of-self
invariant_of-self c =
    let kept = filter_same_pairs _ (is_older_entry c.args.first) _ (λ k v b w f t. search rules) _ _ c.retain.ensures.filtered in
    subst (All IsFiled) (sym kept) (All-filter (is_older_entry c.args.first) IsFiled c.self.inside.nodes.entries c.self.invariant)

pub returns : goal.returns
returns c =
    let kept = filter_same_pairs _ (is_older_entry c.args.first) _ (λ k v b w f t. search rules) _ _ c.retain.ensures.filtered in
    rw (← c.self.view_is) (ap (map open_node) kept ∙ older_nodes c.args.first c.self.inside.nodes.entries)
