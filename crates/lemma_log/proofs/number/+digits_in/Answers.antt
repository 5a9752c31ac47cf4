use Rattle.std.proofs.Common.{◌-◌, arith}
use Rattle.lemma_log.proofs.Digits.{last_small, more_small, fits}
use Rattle.lemma_log.proofs.number.+digits_in.Goals as goal

pub returns-then-low-lt128-clause-small : goal.returns-then-low-lt128-clause-small
returns-then-low-lt128-clause-small t c = last_small c.args.most c.in-Some.byte (omega arith) (omega arith)

pub overflow_mul-result : goal.overflow_mul-result
overflow_mul-result t c = omega (arith, fits c.args.most c.in_ok-high.high (omega arith) c.in_ok-high.ensures.small)

pub overflow_add-result : goal.overflow_add-result
overflow_add-result t c = omega (arith, fits c.args.most c.in_ok-high.high (omega arith) c.in_ok-high.ensures.small, c.in-Some.ensures.byte)

pub returns-clause-small : goal.returns-clause-small
returns-clause-small t c = more_small c.args.most (c.in-Some.byte - 128) c.in_ok-high.high (omega arith)
    (omega (arith, c.in-Some.ensures.byte)) c.in_ok-high.ensures.small
