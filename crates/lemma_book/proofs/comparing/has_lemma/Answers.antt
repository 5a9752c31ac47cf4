use Rattle.std.proofs.Common.{◌≡◌, List, Some, sym, ◌∙◌}
use Rattle.std.proofs.lemmas.Slice.Eq.{slice_eq-Decides}
use Rattle.network.specs.declared.parts.Lag.{Lag}
use Rattle.lemma_proof.specs.Lines.{IsIn}
use Rattle.lemma_book.proofs.Premised.{lag_decides}
use Rattle.lemma_book.proofs.comparing.has_lemma.Goals as goal

pub returns-in-Some : goal.returns-in-Some
returns-in-Some c =
    let same = slice_eq-Decides lag_decides c.in-Some.arcs.now c.args.lemma.now c.eq.result c.eq.ensures in
    let found : IsIn c.args.premises.now.lemmas c.args.slot c.in-Some.arcs.now = c.in-Some.ensures in
    ((λ yes. rw (sym (same.0 yes)) found), (λ is. same.1 (one c.in-Some.arcs.now c.args.lemma.now (sym found ∙ is))))
  where
    one : (xs ys : List Lag) → Some (Some xs) ≡ Some (Some ys) → xs ≡ ys
    one xs ys e = cc
