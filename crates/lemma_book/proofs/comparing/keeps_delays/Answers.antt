use Rattle.std.proofs.Common.{refl}
use Rattle.std.proofs.lemmas.Bool.{iff_false}
use Rattle.lemma_book.proofs.comparing.keeps_delays.Goals as goal

pub returns-then-not-has_delays : goal.returns-then-not-has_delays
returns-then-not-has_delays c = (λ _. λ known. absurd (iff_false c.has_delays.ensures c.if-not-has_delays.true known), λ _. refl)

pub returns : goal.returns
returns c = (
  λ yes. λ known. c.has_delays-2.ensures.0 yes,
  λ keeps. c.has_delays-2.ensures.1 (keeps (c.has_delays.ensures.0 c.if-not-has_delays.false)),
)
