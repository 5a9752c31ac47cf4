use Rattle.std.proofs.Common.{◌∙◌, rules, w64, SFits}
use Rattle.std.proofs.lemmas.Int.{to_z-of_z}
use Rattle.lemma_proof.proofs.KnownWalks.{entry-seen_rows}
use Rattle.lemma_proof.proofs.weights.seen_weight.Goals as goal

pub returns-in-Some-clause-value : goal.returns-in-Some-clause-value
returns-in-Some-clause-value c =
    let x = c.args.block.now in
    let fits : SFits w64 c.tried_weight.result = search rules in
    rw (c.in-Some.is, to_z-of_z w64 c.tried_weight.result fits)
    (entry-seen_rows x.rows x.tried_heads x.tried_tails c.args.a c.args.b c.requires.from_activity
    c.requires.to_activity ∙ c.tried_weight.ensures.value)

pub returns-in-None-clause-value : goal.returns-in-None-clause-value
returns-in-None-clause-value c =
    let x = c.args.block.now in
    let fits : SFits w64 c.weight.result = search rules in
    rw (c.in-None.is, to_z-of_z w64 c.weight.result fits)
    (entry-seen_rows x.rows x.heads x.tails c.args.a c.args.b c.requires.from_activity c.requires.to_activity
    ∙ c.weight.ensures.value)
