use Rattle.std.proofs.Common.{◌≡◌, get_or, SFits, w64, to_z, of_z, arith, refl, ℤ, pos, ◌+ℤ◌, int_lt}
use Rattle.std.specs.Int.Signed.{lt_z}
use Rattle.std.proofs.lemmas.Int.{ints, to_z-of_z}
use Rattle.schedule_check.proofs.violation.breaks.Goals as goal

-- what the code's comparison computes
breaks_is : (a b w : ℤ) → SFits w64 a → SFits w64 b → SFits w64 w → SFits w64 (b +ℤ w)
    → lt_z (to_z w64 (of_z w64 a)) (to_z w64 (of_z w64 (to_z w64 (of_z w64 b) +ℤ to_z w64 (of_z w64 w)))) ≡ int_lt a
    (b +ℤ w)
breaks_is a b w fits_a fits_b fits_w fits_sum =
    rw (to_z-of_z w64 a fits_a, to_z-of_z w64 b fits_b, to_z-of_z w64 w fits_w, to_z-of_z w64 (b +ℤ w) fits_sum) refl

pub returns : goal.returns
returns c =
    let to = c.requires.within c.args.rule.now.to (pos 0) c.requires.rule.to_activity in
    let from = c.requires.within c.args.rule.now.from (pos 0) c.requires.rule.from_activity in
    let weight = c.requires.rule.light in
    breaks_is (get_or c.args.starts.now c.args.rule.now.to (pos 0))
    (get_or c.args.starts.now c.args.rule.now.from (pos 0)) c.args.rule.now.weight (omega (arith, ints))
    (omega (arith, ints)) (omega (arith, ints)) (omega (arith, ints))
