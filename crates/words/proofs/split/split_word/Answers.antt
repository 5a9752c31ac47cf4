use Rattle.std.proofs.Common.{◌∙◌, sym, arith}
use Rattle.words.specs.Words.{is_in, words}
use Rattle.words.proofs.WordLaws.{words-None, words-Some}
use Rattle.words.proofs.split.split_word.Goals as goal

pub returns-in_err-start-clause-words : goal.returns-in_err-start-clause-words
unfolding words
returns-in_err-start-clause-words c =
    rw c.from_residual.ensures (words-None (is_in c.args.separators.now) c.args.text.now (sym c.first_of_word.ensures ∙ c.in_err-start.was))

pub returns-clause-words : goal.returns-clause-words
unfolding words
returns-clause-words c =
    let found = words-Some (is_in c.args.separators.now) c.args.text.now c.in_ok-start.start c.first_separator.result
    (sym c.in_ok-start.ensures) (rw c.split_at.ensures.back at (sym c.first_separator.ensures)) in
    rw (c.split_at-2.ensures.front, c.split_at-2.ensures.back, c.unwrap_or-end.ensures, c.split_at.ensures.back) found.0

pub returns-clause-shorter : goal.returns-clause-shorter
returns-clause-shorter c =
    let found = words-Some (is_in c.args.separators.now) c.args.text.now c.in_ok-start.start c.first_separator.result
    (sym c.in_ok-start.ensures) (rw c.split_at.ensures.back at (sym c.first_separator.ensures)) in
    let some = rw (← c.split_at.ensures.back) at found.1 in
    omega (arith, rw (← c.unwrap_or-end.ensures) at some, c.split_at.ensures.back_len, c.split_at-2.ensures.back_len)
