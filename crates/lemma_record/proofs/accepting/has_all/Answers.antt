use Rattle.std.proofs.Common.{◌≡◌, sym, ◌∙◌}
use Rattle.std.proofs.lemmas.Bool.{false≢true}
use Rattle.lemma_record.proofs.accepting.has_all.Goals as goal

pub returns-else-have_used : goal.returns-else-have_used
returns-else-have_used c = (λ yes. absurd (false≢true (sym c.if-have_used.false ∙ yes)), λ both. c.have_used.ensures.1 (rw (c.premises-own.ensures, c.as_slice.ensures) both.0))
