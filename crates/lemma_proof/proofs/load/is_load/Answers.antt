use Rattle.std.proofs.Common.{◌≡◌, arith, rules, ◌*◌, ◌<◌, ◌≤◌, ◌-ℤ◌, w64, unsigned_abs, ◌<ℤ◌, ltb-true, lt-ltb, SFits}
use Rattle.std.specs.List.{sum_by}
use Rattle.std.proofs.lemmas.Int.{ints, to_z-of_z}
use Rattle.std.proofs.lemmas.Nat.{mul-le}
use Rattle.network.specs.Problem.{activities, capacity, demand}
use Rattle.lemma_proof.specs.Reasons.{IsLoad, part_of, load_of}
use Rattle.lemma_proof.proofs.Windows.{part_is, load_most}
use Rattle.lemma_proof.proofs.load.is_load.Goals as goal

pub overflow_mul-result : goal.overflow_mul-result
overflow_mul-result c =
    let from_fits : SFits w64 c.args.from = search rules in
    let to_fits : SFits w64 c.args.to = search rules in
    let units_fits : SFits w64 (c.args.to -ℤ c.args.from) =
    omega (
      arith,
      ints,
      c.requires.from_time.at_least,
      c.requires.from_time.at_most,
      c.requires.to_time.at_least,
      c.requires.to_time.at_most,
    ) in
    let units : c.unsigned_abs-units.result ≡ unsigned_abs (c.args.to -ℤ c.args.from) = simp to_z-of_z at c.unsigned_abs-units.ensures.value in
    let short : c.unsigned_abs-units.result ≤ 20000000000 =
    omega (
      arith,
      ints,
      c.requires.from_time.at_least,
      c.requires.from_time.at_most,
      c.requires.to_time.at_least,
      c.requires.to_time.at_most,
    ) in
    let little : c.capacity.result ≤ 1000000 = omega (arith, ints, c.capacity.ensures.amount) in
    omega (arith, mul-le c.unsigned_abs-units.result c.capacity.result 20000000000 1000000 short little)

pub returns : goal.returns
returns c = λ exact arcs m.
    let from_fits : SFits w64 c.args.from = search rules in
    let to_fits : SFits w64 c.args.to = search rules in
    let units_fits : SFits w64 (c.args.to -ℤ c.args.from) =
    omega (
      arith,
      ints,
      c.requires.from_time.at_least,
      c.requires.from_time.at_most,
      c.requires.to_time.at_least,
      c.requires.to_time.at_most,
    ) in
    let units : c.unsigned_abs-units.result ≡ unsigned_abs (c.args.to -ℤ c.args.from) = simp to_z-of_z at c.unsigned_abs-units.ensures.value in
    let some : c.args.from <ℤ c.args.to = grind (arith, ints, c.if-from-to.false) in
    let load : c.load.result ≡ load_of c.args.project.now c.args.weights.now.rows c.args.resource c.args.from c.args.to
    (activities c.args.project.now) = simp to_z-of_z at c.load.ensures in record {
      shown = λ yes.
          let over : c.unsigned_abs-units.result * c.capacity.result < c.load.result =
          ltb-true (c.unsigned_abs-units.result * c.capacity.result) c.load.result yes in
          record {
            in_range = omega (arith, c.if-resource-resource_count.false, c.resource_count.ensures.value);
            units = c.unsigned_abs-units.result;
            some = omega (arith, ints);
            window = omega (arith, ints);
            parts = part_of c.args.project.now c.args.weights.now.rows c.args.from c.args.to;
            each = λ i lt. part_is c.args.project.now arcs c.args.weights.now c.args.from c.args.to i m.below lt;
            over = rw (load, c.capacity.ensures.value) at over;
          };
      only = λ sure (k : IsLoad c.args.project.now arcs c.args.resource c.args.from c.args.to).
          let most = load_most c.args.project.now arcs c.args.weights.now.rows c.args.resource c.args.from c.args.to k (m.matrix sure) in
          let long : k.units ≡ c.unsigned_abs-units.result = omega (arith, ints, k.window) in
          let exceeds : c.unsigned_abs-units.result * capacity c.args.project.now c.args.resource < sum_by
          (λ i. k.parts i * demand c.args.project.now c.args.resource i) (activities c.args.project.now) =
          rw long at k.over in
          let over : c.unsigned_abs-units.result * capacity c.args.project.now c.args.resource < c.load.result = omega (arith, exceeds, most, load) in
          let tested : c.unsigned_abs-units.result * c.capacity.result < c.load.result = rw c.capacity.ensures.value over in
          lt-ltb (c.unsigned_abs-units.result * c.capacity.result) c.load.result tested;
    }
