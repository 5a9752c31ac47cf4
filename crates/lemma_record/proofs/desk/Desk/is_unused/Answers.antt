use Rattle.std.proofs.Common.{◌≡◌, true, sym, ap, ◌∙◌, ℕ, [], length, vec_len, rules, ⊎_elim, inr, ◌==◌}
use Rattle.std.proofs.lemmas.Bool.{false≢true}
use Rattle.lemma_book.specs.Ledger.{IsFilled}
use Rattle.lemma_record.proofs.Desks.{none_tells}
use Rattle.lemma_record.proofs.desk.Desk.is_unused.Goals as goal

pub returns-else-is_empty : goal.returns-else-is_empty
returns-else-is_empty c =
    let tells = none_tells c.self.inside.premises.lemmas c.args.slot c.lemma_in.result c.is_none.result c.is_none.ensures c.lemma_in.ensures in
    rw (sym c.self.view_is) (
      (λ yes. inr (tells.0 yes)),
      (λ either. ⊎_elim
          (λ (none : c.self.inside.proved.items ≡ []).
          let items : vec_len c.self.inside.proved ≡ length c.self.inside.proved.items = search rules in
          let long : vec_len c.self.inside.proved ≡ 0 = items ∙ ap length none in
          let empty : c.is_empty.result ≡ true = c.is_empty.ensures ∙ ap (λ (n : ℕ). n == 0) long in
          absurd (false≢true (sym c.if-is_empty.false ∙ empty)))
          (λ (free : ¬ IsFilled c.self.inside.premises.lemmas c.args.slot). tells.1 free)
          either),
    )
