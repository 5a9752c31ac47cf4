use Rattle.std.proofs.Common.{◌≡◌, List, Some, sym, ◌∙◌, refl}
use Rattle.network.specs.declared.parts.Lag.{Lag}
use Rattle.lemma_proof.specs.Lines.{IsIn}
use Rattle.lemma_book.proofs.comparing.has_lemma_of.Goals as goal

pub returns-in-Some : goal.returns-in-Some
returns-in-Some c =
    let found : IsIn c.args.other.now.lemmas c.args.slot c.in-Some.lemma.now = c.in-Some.ensures in (
      λ yes lemma at. rw (one c.in-Some.lemma.now lemma (sym found ∙ at)) at (c.has_lemma.ensures.0 yes),
      λ all. c.has_lemma.ensures.1 (all c.in-Some.lemma.now found),
    )
  where
    one : (xs ys : List Lag) → Some (Some xs) ≡ Some (Some ys) → xs ≡ ys
    one xs ys e = cc

pub returns-in-None : goal.returns-in-None
returns-in-None c = (λ _ lemma at. absurd (c.in-None.ensures (lemma, at)), λ _. refl)
