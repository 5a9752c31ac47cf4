use Rattle.std.proofs.Common.{arith}
use Rattle.std.proofs.lemmas.Bool.{iff_false}
use Rattle.std.proofs.lemmas.Int.{ints}
use Rattle.lemma_proof.proofs.Loops.{never}
use Rattle.lemma_proof.proofs.slots.are_delays.Goals as goal

pub returns-then-not-goes_between : goal.returns-then-not-goes_between
returns-then-not-goes_between c = never (λ d. iff_false c.goes_between.ensures c.if-not-goes_between.true (d.there_from, d.there_to))

pub returns-then-not-goes_between-2 : goal.returns-then-not-goes_between-2
returns-then-not-goes_between-2 c =
    never (λ d. iff_false c.goes_between-2.ensures c.if-not-goes_between-2.true (d.back_from, d.back_to))

pub returns : goal.returns
returns c = (
  λ yes. record {
    there_from = (c.goes_between.ensures.0 c.if-not-goes_between.false).0;
    there_to = (c.goes_between.ensures.0 c.if-not-goes_between.false).1;
    back_from = (c.goes_between-2.ensures.0 c.if-not-goes_between-2.false).0;
    back_to = (c.goes_between-2.ensures.0 c.if-not-goes_between-2.false).1;
    first = omega (arith, ints, c.delay.ensures.value, c.is_delay.ensures.0 c.if-not-is_delay.false);
    second = omega (arith, ints, c.delay-2.ensures.value, c.is_delay-2.ensures.0 yes);
  },
  λ d. c.is_delay-2.ensures.1 (omega (arith, ints, c.delay-2.ensures.value, d.second)),
)
