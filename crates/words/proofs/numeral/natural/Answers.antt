use Rattle.std.proofs.Common.{◌≡◌, ◌<◌, ◌^◌, arith, rules, length, IfSome}
pub use Rattle.words.specs.declared.numeral.TheConstants.{MAX_DIGITS}
use Rattle.words.specs.Words.{natural}
use Rattle.words.proofs.WordLaws.{AreDigits, IsUtf8-digits, parsed}
use Rattle.words.proofs.numeral.natural.Goals as goal

pub returns-in_default-clause-value : goal.returns-in_default-clause-value
returns-in_default-clause-value c =
    let digits : AreDigits c.args.word.now = search rules in
    absurd (c.in_default.ensures.cases.0 (IsUtf8-digits c.args.word.now digits))

result_is : (c : goal.After-ok) → (c.ok.result ≡ natural c.args.most c.args.word.now) × IfSome c.ok.result (λ n. n < 10 ^ MAX_DIGITS)
result_is c =
    let digits : AreDigits c.args.word.now = search rules in
    let some : 0 < length c.args.word.now = search rules in
    rw c.ok.ensures.value (parsed c.args.most c.args.word.now c.in-Ok.digits.now c.parse.result c.requires
    c.in-Ok.ensures.cases.0 digits some (omega (arith, c.if-word-most.false)) c.parse.ensures.value.0)

pub returns-clause-value : goal.returns-clause-value
returns-clause-value c = (result_is c).0

pub returns-clause-below : goal.returns-clause-below
returns-clause-below c = (result_is c).1
