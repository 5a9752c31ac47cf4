use Rattle.std.proofs.Common.{subst, sym, ap, ◌∙◌, length}
use Rattle.lemma_proof.specs.Implied.{ImpliesWith}
use Rattle.lemma_proof.specs.Reasons.{Entries, entries_of_block}
use Rattle.lemma_proof.proofs.KnownWalks.{length-entries, own-entries}
use Rattle.lemma_proof.proofs.weights.Weights.implies_beside.Goals as goal

pub seen_beside-requires-clause-from_activity : goal.seen_beside-requires-clause-from_activity
seen_beside-requires-clause-from_activity c =
    let view = rw c.in-Seen.is at c.self.view_is in
    rw (sym (length-entries c.in-Seen.tried c.in-Seen.block.now) ∙ ap (λ (x : Entries). length x.rows) view) c.requires.from_activity

pub seen_beside-requires-clause-to_activity : goal.seen_beside-requires-clause-to_activity
seen_beside-requires-clause-to_activity c =
    let view = rw c.in-Seen.is at c.self.view_is in
    rw (sym (length-entries c.in-Seen.tried c.in-Seen.block.now) ∙ ap (λ (x : Entries). length x.rows) view) c.requires.to_activity

pub returns-in-Seen : goal.returns-in-Seen
returns-in-Seen c = λ yes.
    let trial = c.in-Seen.tried in
    let x = c.in-Seen.block.now in
    let view = rw c.in-Seen.is at c.self.view_is in
    let P : Entries → Type 0 = λ y. ImpliesWith (length y.rows) y.own y.more c.args.arc in
    let here : ImpliesWith (length (entries_of_block c.in-Seen.tried c.in-Seen.block.now).rows)
    (entries_of_block c.in-Seen.tried c.in-Seen.block.now).own
    (entries_of_block c.in-Seen.tried c.in-Seen.block.now).more c.args.arc =
    rw (length-entries trial x, own-entries trial x) (c.seen_beside.ensures yes) in
    subst P view here
