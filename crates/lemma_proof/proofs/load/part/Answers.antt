use Rattle.std.proofs.Common.{◌≡◌, refl, sym, ◌∙◌, arith, rules, ◌+ℤ◌, ◌-ℤ◌, pos, Some, w64, ◌≤ℤ◌, unsigned_abs, SFits}
use Rattle.std.specs.Int.{int_max, int_min}
use Rattle.std.proofs.lemmas.Int.{ints, clamps, to_z-of_z}
use Rattle.network.specs.Problem.{IsWithin}
use Rattle.network.specs.Walk.{entry}
pub use Rattle.lemma_proof.specs.declared.weights.TheConstants.{MAX_KNOWN_WEIGHT}
use Rattle.lemma_proof.proofs.load.part.Goals as goal

pub overflow_add-head : goal.overflow_add-head
overflow_add-head c =
    let small : IsWithin MAX_KNOWN_WEIGHT c.in-Some-Some.head = rw c.in-Some-Some.is-0 at c.get-head.ensures.fits in
    omega (arith, ints, small.at_least, small.at_most, c.duration-duration.ensures.amount.at_least, c.duration-duration.ensures.amount.at_most)

pub overflow_sub-head : goal.overflow_sub-head
overflow_sub-head c =
    let small : IsWithin MAX_KNOWN_WEIGHT c.in-Some-Some.head = rw c.in-Some-Some.is-0 at c.get-head.ensures.fits in
    omega (
      arith,
      ints,
      small.at_least,
      small.at_most,
      c.duration-duration.ensures.amount.at_least,
      c.duration-duration.ensures.amount.at_most,
      c.requires.from_time.at_least,
      c.requires.from_time.at_most,
    )

pub overflow_add-to : goal.overflow_add-to
overflow_add-to c =
    let small : IsWithin MAX_KNOWN_WEIGHT c.in-Some-Some.back = rw c.in-Some-Some.is-1 at c.get-back.ensures.fits in
    omega (arith, ints, small.at_least, small.at_most, c.requires.to_time.at_least, c.requires.to_time.at_most)

pub returns-clause-value : goal.returns-clause-value
returns-clause-value c =
    let head_small : IsWithin MAX_KNOWN_WEIGHT c.in-Some-Some.head = rw c.in-Some-Some.is-0 at c.get-head.ensures.fits in
    let back_small : IsWithin MAX_KNOWN_WEIGHT c.in-Some-Some.back = rw c.in-Some-Some.is-1 at c.get-back.ensures.fits in
    let from_fits : SFits w64 c.args.from = search rules in
    let to_fits : SFits w64 c.args.to = search rules in
    let long_fits : SFits w64 c.duration-duration.result = search rules in
    let head_fits : SFits w64 c.in-Some-Some.head = search rules in
    let back_fits : SFits w64 c.in-Some-Some.back = search rules in
    let units_fits : SFits w64 (c.args.to -ℤ c.args.from) =
    omega (
      arith,
      ints,
      c.requires.from_time.at_least,
      c.requires.from_time.at_most,
      c.requires.to_time.at_least,
      c.requires.to_time.at_most,
    ) in
    let end_fits : SFits w64 (c.in-Some-Some.head +ℤ c.duration-duration.result) =
    omega (
      arith,
      ints,
      head_small.at_least,
      head_small.at_most,
      c.duration-duration.ensures.amount.at_least,
      c.duration-duration.ensures.amount.at_most,
    ) in
    let left_fits : SFits w64 ((c.in-Some-Some.head +ℤ c.duration-duration.result) -ℤ c.args.from) =
    omega (
      arith,
      ints,
      head_small.at_least,
      head_small.at_most,
      c.duration-duration.ensures.amount.at_least,
      c.duration-duration.ensures.amount.at_most,
      c.requires.from_time.at_least,
      c.requires.from_time.at_most,
    ) in
    let late_fits : SFits w64 (c.args.to +ℤ c.in-Some-Some.back) =
    omega (
      arith,
      ints,
      back_small.at_least,
      back_small.at_most,
      c.requires.to_time.at_least,
      c.requires.to_time.at_most,
    ) in
    let first_fits : SFits w64 c.min.result = search rules in
    let second_fits : SFits w64 c.min-early.result = search rules in
    let third_fits : SFits w64 c.min-2.result = search rules in
    let last_fits : SFits w64 c.max.result = search rules in
    let first : c.min.result ≡ int_min c.duration-duration.result (c.args.to -ℤ c.args.from) = simp to_z-of_z at c.min.ensures.value in
    let second : c.min-early.result ≡ int_min c.min.result
    ((c.in-Some-Some.head +ℤ c.duration-duration.result) -ℤ c.args.from) =
    simp to_z-of_z at c.min-early.ensures.value in
    let third : c.min-2.result ≡ int_min c.min-early.result (c.args.to +ℤ c.in-Some-Some.back) = simp to_z-of_z at c.min-2.ensures.value in
    let last : c.max.result ≡ int_max c.min-2.result (pos 0) = simp to_z-of_z at c.max.ensures.value in
    let abs : c.unsigned_abs.result ≡ unsigned_abs c.max.result = simp to_z-of_z at c.unsigned_abs.ensures.value in
    let head : entry c.args.weights.now.rows 0 c.args.activity ≡ Some c.in-Some-Some.head = sym c.get-head.ensures.value ∙ c.in-Some-Some.is-0 in
    let back : entry c.args.weights.now.rows c.args.activity 0 ≡ Some c.in-Some-Some.back = sym c.get-back.ensures.value ∙ c.in-Some-Some.is-1 in
    rw (head, back, sym c.duration-duration.ensures.value) (rw (abs, last, third, second, first) refl)

pub returns-clause-small : goal.returns-clause-small
returns-clause-small c =
    let long_fits : SFits w64 c.duration-duration.result = search rules in
    let first_fits : SFits w64 c.min.result = search rules in
    let second_fits : SFits w64 c.min-early.result = search rules in
    let third_fits : SFits w64 c.min-2.result = search rules in
    let last_fits : SFits w64 c.max.result = search rules in
    let first : c.min.result ≤ℤ c.duration-duration.result = simp to_z-of_z at c.min.ensures.self_bound in
    let second : c.min-early.result ≤ℤ c.min.result = simp to_z-of_z at c.min-early.ensures.self_bound in
    let third : c.min-2.result ≤ℤ c.min-early.result = simp to_z-of_z at c.min-2.ensures.self_bound in
    let last : c.max.result ≡ int_max c.min-2.result (pos 0) = simp to_z-of_z at c.max.ensures.value in
    let abs : c.unsigned_abs.result ≡ unsigned_abs c.max.result = simp to_z-of_z at c.unsigned_abs.ensures.value in
    omega (arith, ints, clamps, c.duration-duration.ensures.amount.at_most)
