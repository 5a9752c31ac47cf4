use Rattle.std.proofs.Common.{rules, arith, ◌≡◌, ◌+ℤ◌, ◌≤ℤ◌, ◌<ℤ◌, w32, w64, SFits}
use Rattle.std.specs.Int.{int_max}
use Rattle.std.proofs.lemmas.Int.{ints, to_z-of_z}
use Rattle.network.specs.Problem.{IsWithin}
use Rattle.network.specs.Schedule.{start}
use Rattle.network.specs.declared.limits.TheConstants.{MAX_WALK_WEIGHT}
use Rattle.lemma_proof.proofs.Rooting.{none_taken}
use Rattle.lemma_proof.proofs.root.raise_over.Goals as goal

pub overflow_cast-first : goal.overflow_cast-first
overflow_cast-first c =
    let from_small = c.requires.small c.args.arc.from c.requires.from_activity in
    let to_small = c.requires.small c.args.arc.to c.requires.to_activity in
    let light = c.requires.light in
    let weight_fits : SFits w64 c.args.arc.weight = search rules in
    let from_fits : SFits w64 c.weight_at.result = search rules in
    let to_fits : SFits w64 c.weight_at-2.result = search rules in
    let way_fits : SFits w64 (c.weight_at.result +ℤ c.args.arc.weight) =
    omega (arith, ints, c.weight_at.ensures, from_small.at_least, from_small.at_most, light.at_least, light.at_most)
    in
    let more : c.weight_at-2.result <ℤ (c.weight_at.result +ℤ c.args.arc.weight) = simp to_z-of_z at (rw c.if-exceeds.true at c.exceeds.ensures) in
    let most : (c.weight_at.result +ℤ c.args.arc.weight) ≤ℤ MAX_WALK_WEIGHT = rw c.weight_at.ensures c.requires.first_small in
    let fits : SFits w32 (c.weight_at.result +ℤ c.args.arc.weight) = omega (arith, ints, c.weight_at-2.ensures, to_small.at_least, more, most) in
    simp to_z-of_z (omega (arith, ints, fits))

pub raise-requires-clause-by : goal.raise-requires-clause-by
raise-requires-clause-by c =
    let from_small = c.requires.small c.args.arc.from c.requires.from_activity in
    let to_small = c.requires.small c.args.arc.to c.requires.to_activity in
    let light = c.requires.light in
    let weight_fits : SFits w64 c.args.arc.weight = search rules in
    let from_fits : SFits w64 c.weight_at.result = search rules in
    let to_fits : SFits w64 c.weight_at-2.result = search rules in
    let way_fits : SFits w64 (c.weight_at.result +ℤ c.args.arc.weight) =
    omega (arith, ints, c.weight_at.ensures, from_small.at_least, from_small.at_most, light.at_least, light.at_most)
    in
    let more : c.weight_at-2.result <ℤ (c.weight_at.result +ℤ c.args.arc.weight) = simp to_z-of_z at (rw c.if-exceeds.true at c.exceeds.ensures) in
    let most : (c.weight_at.result +ℤ c.args.arc.weight) ≤ℤ MAX_WALK_WEIGHT = rw c.weight_at.ensures c.requires.first_small in
    let fits : SFits w32 (c.weight_at.result +ℤ c.args.arc.weight) = omega (arith, ints, c.weight_at-2.ensures, to_small.at_least, more, most) in
    let small : IsWithin MAX_WALK_WEIGHT (c.weight_at.result +ℤ c.args.arc.weight) =
    record { at_least = omega (arith, ints, c.weight_at-2.ensures, to_small.at_least, more); at_most = most } in
    simp to_z-of_z small

pub returns-then-exceeds : goal.returns-then-exceeds
returns-then-exceeds c =
    let from_small = c.requires.small c.args.arc.from c.requires.from_activity in
    let to_small = c.requires.small c.args.arc.to c.requires.to_activity in
    let light = c.requires.light in
    let weight_fits : SFits w64 c.args.arc.weight = search rules in
    let from_fits : SFits w64 c.weight_at.result = search rules in
    let to_fits : SFits w64 c.weight_at-2.result = search rules in
    let way_fits : SFits w64 (c.weight_at.result +ℤ c.args.arc.weight) =
    omega (arith, ints, c.weight_at.ensures, from_small.at_least, from_small.at_most, light.at_least, light.at_most)
    in
    let more : c.weight_at-2.result <ℤ (c.weight_at.result +ℤ c.args.arc.weight) = simp to_z-of_z at (rw c.if-exceeds.true at c.exceeds.ensures) in
    let most : (c.weight_at.result +ℤ c.args.arc.weight) ≤ℤ MAX_WALK_WEIGHT = rw c.weight_at.ensures c.requires.first_small in
    let fits : SFits w32 (c.weight_at.result +ℤ c.args.arc.weight) = omega (arith, ints, c.weight_at-2.ensures, to_small.at_least, more, most) in
    record {
      long = c.raise.ensures.wide;
      taken = λ k lk.
          let here : start c.raise.new.row k ≡ int_max (start c.args.row.now k)
          ((c.weight_at.result +ℤ c.args.arc.weight) +ℤ start c.args.via.now k) =
          simp to_z-of_z at (c.raise.ensures.raised k lk) in
          rw c.weight_at.ensures at here;
    }

pub returns-else-exceeds : goal.returns-else-exceeds
returns-else-exceeds c =
    let from_small = c.requires.small c.args.arc.from c.requires.from_activity in
    let to_small = c.requires.small c.args.arc.to c.requires.to_activity in
    let light = c.requires.light in
    let weight_fits : SFits w64 c.args.arc.weight = search rules in
    let from_fits : SFits w64 c.weight_at.result = search rules in
    let to_fits : SFits w64 c.weight_at-2.result = search rules in
    let way_fits : SFits w64 (c.weight_at.result +ℤ c.args.arc.weight) =
    omega (arith, ints, c.weight_at.ensures, from_small.at_least, from_small.at_most, light.at_least, light.at_most)
    in
    let le : (c.weight_at.result +ℤ c.args.arc.weight) ≤ℤ c.weight_at-2.result = simp to_z-of_z at (rw c.if-exceeds.false at c.exceeds.ensures) in
    none_taken c.args.arc c.args.row.now c.args.via.now c.requires (rw (← c.weight_at.ensures, ← c.weight_at-2.ensures) le)
