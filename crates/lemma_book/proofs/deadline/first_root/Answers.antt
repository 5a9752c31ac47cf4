use Rattle.std.proofs.Common.{◌≡◌, arith, sym, ◌∙◌, rules, w64, SFits, pos, ◌+ℤ◌, false}
use Rattle.std.proofs.lemmas.Int.{ints, to_z-of_z}
use Rattle.network.specs.Horizon.{horizon}
use Rattle.lemma_book.specs.Ledger.{asks_too_much}
use Rattle.lemma_book.proofs.Ledgers.{first_root_is, of_sum, root_from, rules_and}
use Rattle.lemma_book.proofs.TooMuch.{asked_cycle}
use Rattle.lemma_book.proofs.deadline.first_root.Goals as goal

pub returns-then-asks_too_much-clause-bench : goal.returns-then-asks_too_much-clause-bench
returns-then-asks_too_much-clause-bench c = asked_cycle c.args.project.now (sym c.asks_too_much.ensures ∙ c.if-asks_too_much.true)

pub returns-clause-bench : goal.returns-clause-bench
returns-clause-bench c =
    let p = c.args.project.now in
    let value : c.horizon_of-bound.result ≡ pos (horizon p) = c.horizon_of-bound.ensures.value in
    let long_fits : SFits w64 c.horizon_of-bound.result = search rules in
    let fits : SFits w64 (c.horizon_of-bound.result +ℤ pos 1) = omega (arith, ints, value, c.horizon_of-bound.ensures.small) in
    let found = simp to_z-of_z at c.in_ok-bench.ensures in
    let asks : asks_too_much p ≡ false = sym c.asks_too_much.ensures ∙ c.if-asks_too_much.false in
    first_root_is p (c.horizon_of-bound.result +ℤ pos 1) c.in_ok-bench.bench (rw value (of_sum (horizon p))) asks
    (root_from p (rules_and p (c.horizon_of-bound.result +ℤ pos 1)) c.in_ok-bench.bench found)
