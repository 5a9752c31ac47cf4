use Rattle.std.proofs.Common.{◌≡◌, ◌≤◌, arith, rules, ℤ, pos, ◌-ℤ◌, ◌≤ℤ◌, w64, SFits, get_or, to_z}
use Rattle.std.proofs.lemmas.Int.{ints, to_z-of_z}
use Rattle.lemma_proof.specs.Slots.{IsSmall}
use Rattle.lemma_proof.proofs.TourLoops.{left_more, not_below, zero_interval}
use Rattle.lemma_proof.proofs.tour.are_longer.Goals as goal

pub loop-interval-preserved : goal.loop-interval-preserved
loop-interval-preserved c =
    let from_fits : SFits w64 c.args.from = search rules in
    let to_fits : SFits w64 c.args.to = search rules in
    let small : IsSmall (get_or c.args.intervals.now c.loop-interval.interval-index zero_interval) =
    c.requires.intervals c.loop-interval.interval-index zero_interval c.loop-interval-test.true in
    let short : (get_or c.args.intervals.now c.loop-interval.interval-index zero_interval).length ≤ 1002000000 = small.size in
    let wide : to_z w64 (get_or c.args.intervals.now c.loop-interval.interval-index zero_interval).length
    ≡ pos (get_or c.args.intervals.now c.loop-interval.interval-index zero_interval).length = omega (arith, ints, short) in
    let low : pos 0 ≤ℤ to_z w64 c.loop-interval.left-bits = not_below (to_z w64 c.loop-interval.left-bits) c.if-left-lt0.false in
    let most = c.loop-interval.invariant.within.at_most in
    let fits : SFits w64 (to_z w64 c.loop-interval.left-bits -ℤ
    to_z w64 (get_or c.args.intervals.now c.loop-interval.interval-index zero_interval).length) =
    omega (arith, ints, low, most, wide, short) in
    record {
      is = simp to_z-of_z (rw wide (left_more c.args.from c.args.to (to_z w64 c.loop-interval.left-bits)
          c.args.intervals.now c.loop-interval.interval-index zero_interval c.loop-interval-test.true
          (simp to_z-of_z at c.loop-interval.invariant.is)));
      within = record {
        at_least = simp to_z-of_z (omega (arith, ints, low, wide, short));
        at_most = simp to_z-of_z (omega (arith, ints, most, wide));
      };
    }
