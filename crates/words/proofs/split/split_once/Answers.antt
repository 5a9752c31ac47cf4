use Rattle.std.proofs.Common.{◌≡◌, ◌==◌, ◌+◌, ◌∙◌, sym, drop}
use Rattle.words.proofs.WordLaws.{pieces-Some, pieces-None, drop_one}
use Rattle.words.proofs.split.split_once.Goals as goal

pub returns-in_err-end-clause-pieces : goal.returns-in_err-end-clause-pieces
returns-in_err-end-clause-pieces c =
    rw c.from_residual.ensures (pieces-None (λ b. b == c.args.separator) c.args.text.now (sym c.first_at.ensures ∙ c.in_err-end.was))

pub returns-clause-pieces : goal.returns-clause-pieces
returns-clause-pieces c =
    let past : drop (c.in_ok-end.end + 1) c.args.text.now ≡ drop 1 (drop c.in_ok-end.end c.args.text.now) = drop_one c.in_ok-end.end c.args.text.now in
    rw (c.split_at.ensures.front, c.split_at-2.ensures.back, c.split_at.ensures.back, ← past)
    (pieces-Some (λ b. b == c.args.separator) c.args.text.now c.in_ok-end.end (sym c.in_ok-end.ensures))
