use Rattle.std.proofs.Common.{◌≡◌, refl, rules, w64, SFits}
use Rattle.std.proofs.lemmas.Int.{to_z-of_z}
use Rattle.lemma_proof.specs.Reasons.{part_of}
use Rattle.lemma_proof.proofs.load.amount.Goals as goal

pub returns-clause-value : goal.returns-clause-value
returns-clause-value c =
    let from_fits : SFits w64 c.args.from = search rules in
    let to_fits : SFits w64 c.args.to = search rules in
    let part : c.part.result ≡ part_of c.args.project.now c.args.weights.now.rows c.args.from c.args.to c.args.activity =
    simp to_z-of_z at c.part.ensures.value in
    rw (part, c.demand-demand.ensures.value) refl
