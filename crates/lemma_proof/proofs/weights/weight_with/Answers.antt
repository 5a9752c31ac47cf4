use Rattle.std.proofs.Common.{◌≡◌, refl, sym, ◌∙◌, rules, w64, Some, SFits}
use Rattle.std.proofs.lemmas.Int.{to_z-of_z}
use Rattle.longest_path.specs.Matrix.{joined}
use Rattle.longest_path.specs.Insert.{entry_over}
use Rattle.longest_path.proofs.Inserted.{entry-rows_over}
use Rattle.lemma_proof.proofs.weights.weight_with.Goals as goal

pub returns-clause-value : goal.returns-clause-value
returns-clause-value c =
    let fits : SFits w64 c.in-Some.arc.weight = search rules in
    let sum : c.way.result ≡ joined (joined c.get-first.result (Some c.in-Some.arc.weight)) c.get-last.result = simp to_z-of_z at c.way.ensures.sum in
    let over : c.greater.result ≡ entry_over c.in-Some.arc c.args.matrix.now c.args.a c.args.b =
    rw (c.greater.ensures, sum, c.get-weight.ensures.value, c.get-first.ensures.value, c.get-last.ensures.value)
    refl in
    rw c.in-Some.is (over ∙ sym (entry-rows_over c.in-Some.arc c.args.matrix.now c.args.a c.args.b c.requires.from_activity c.requires.to_activity))
