use Rattle.std.proofs.Common.{sym, ap, ◌∙◌, length}
use Rattle.lemma_proof.specs.Reasons.{Entries}
use Rattle.lemma_proof.proofs.Weighing.{length-rows_with}
use Rattle.lemma_proof.proofs.KnownWalks.{length-entries}
use Rattle.lemma_proof.proofs.weights.Weights.get.Goals as goal

pub weight_with-requires-clause-from_activity : goal.weight_with-requires-clause-from_activity
weight_with-requires-clause-from_activity c =
    let view = rw c.in-Matrix.is at c.self.view_is in
    rw (sym (length-rows_with c.in-Matrix.added c.in-Matrix.matrix.now) ∙ ap (λ (x : Entries). length x.rows) view) c.requires.from_activity

pub weight_with-requires-clause-to_activity : goal.weight_with-requires-clause-to_activity
weight_with-requires-clause-to_activity c =
    let view = rw c.in-Matrix.is at c.self.view_is in
    rw (sym (length-rows_with c.in-Matrix.added c.in-Matrix.matrix.now) ∙ ap (λ (x : Entries). length x.rows) view) c.requires.to_activity

pub seen_weight-requires-clause-from_activity : goal.seen_weight-requires-clause-from_activity
seen_weight-requires-clause-from_activity c =
    let view = rw c.in-Seen.is at c.self.view_is in
    rw (sym (length-entries c.in-Seen.tried c.in-Seen.block.now) ∙ ap (λ (x : Entries). length x.rows) view) c.requires.from_activity

pub seen_weight-requires-clause-to_activity : goal.seen_weight-requires-clause-to_activity
seen_weight-requires-clause-to_activity c =
    let view = rw c.in-Seen.is at c.self.view_is in
    rw (sym (length-entries c.in-Seen.tried c.in-Seen.block.now) ∙ ap (λ (x : Entries). length x.rows) view) c.requires.to_activity
