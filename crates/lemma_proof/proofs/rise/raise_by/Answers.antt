use Rattle.std.proofs.Common.{rules, arith, refl, sym, pos, ◌+ℤ◌, ◌≤ℤ◌, ◌<ℤ◌, w64, SFits}
use Rattle.std.proofs.lemmas.Int.{ints, to_z-of_z}
use Rattle.network.specs.Schedule.{start}
use Rattle.lemma_proof.specs.Heads.{table_rows}
use Rattle.lemma_proof.specs.Rising.{IsRaised}
use Rattle.lemma_proof.proofs.Rising.{back_small, way_small, way_between, raised_over, risen_raised}
use Rattle.lemma_proof.proofs.rise.raise_by.Goals as goal

pub overflow_add-way : goal.overflow_add-way
overflow_add-way c =
    let way = way_small (table_rows c.args.table.now) c.args.there.now c.args.back.now c.args.arc c.requires.table c.requires.both c.requires.light in
    let weight_fits : SFits w64 c.args.arc.weight = search rules in
    let from_fits : SFits w64 c.weight_at.result = search rules in
    simp to_z-of_z (omega (arith, ints, c.weight_at.ensures, way.at_least, way.at_most))

pub returns-then-not-exceeds-clause-raised : goal.returns-then-not-exceeds-clause-raised
returns-then-not-exceeds-clause-raised c =
    let way = way_small (table_rows c.args.table.now) c.args.there.now c.args.back.now c.args.arc c.requires.table c.requires.both c.requires.light in
    let weight_fits : SFits w64 c.args.arc.weight = search rules in
    let from_fits : SFits w64 c.weight_at.result = search rules in
    let to_fits : SFits w64 c.weight_at-2.result = search rules in
    let way_fits : SFits w64 (c.weight_at.result +ℤ c.args.arc.weight) = omega (arith, ints, c.weight_at.ensures, way.at_least, way.at_most) in
    let le : (c.weight_at.result +ℤ c.args.arc.weight) ≤ℤ c.weight_at-2.result = simp to_z-of_z at (rw c.if-not-exceeds.true at c.exceeds.ensures) in
    (refl, rw (sym c.weight_at.ensures, sym c.weight_at-2.ensures) le)

pub overflow_add-way-2 : goal.overflow_add-way-2
overflow_add-way-2 c =
    let way = way_small (table_rows c.args.table.now) c.args.there.now c.args.back.now c.args.arc c.requires.table c.requires.both c.requires.light in
    let weight_fits : SFits w64 c.args.arc.weight = search rules in
    let from_fits : SFits w64 c.weight_at.result = search rules in
    let home = back_small (table_rows c.args.table.now) c.args.there.now c.args.back.now c.requires.table
    c.requires.both c.args.arc.to c.requires.light.to_activity in
    let back_fits : SFits w64 c.weight_at-3.result = search rules in
    let way_fits : SFits w64 (c.weight_at.result +ℤ c.args.arc.weight) = omega (arith, ints, c.weight_at.ensures, way.at_least, way.at_most) in
    simp to_z-of_z (omega (arith, ints, c.weight_at.ensures, c.weight_at-3.ensures, way.at_least, way.at_most, home.at_least, home.at_most))

pub returns-then-exceeds-clause-raised : goal.returns-then-exceeds-clause-raised
returns-then-exceeds-clause-raised c =
    let way = way_small (table_rows c.args.table.now) c.args.there.now c.args.back.now c.args.arc c.requires.table c.requires.both c.requires.light in
    let weight_fits : SFits w64 c.args.arc.weight = search rules in
    let from_fits : SFits w64 c.weight_at.result = search rules in
    let home = back_small (table_rows c.args.table.now) c.args.there.now c.args.back.now c.requires.table
    c.requires.both c.args.arc.to c.requires.light.to_activity in
    let back_fits : SFits w64 c.weight_at-3.result = search rules in
    let way_fits : SFits w64 (c.weight_at.result +ℤ c.args.arc.weight) = omega (arith, ints, c.weight_at.ensures, way.at_least, way.at_most) in
    let round_fits : SFits w64 ((c.weight_at.result +ℤ c.args.arc.weight) +ℤ c.weight_at-3.result) =
    omega (
      arith,
      ints,
      c.weight_at.ensures,
      c.weight_at-3.ensures,
      way.at_least,
      way.at_most,
      home.at_least,
      home.at_most,
    ) in
    let above : pos 0 <ℤ ((c.weight_at.result +ℤ c.args.arc.weight) +ℤ c.weight_at-3.result) =
    simp to_z-of_z at (rw c.if-exceeds.true at c.exceeds-2.ensures) in
    record { arc = c.args.arc; among = (0, omega arith, refl); above = rw (sym c.weight_at.ensures, sym c.weight_at-3.ensures) above }

pub raise_to-requires-clause-small : goal.raise_to-requires-clause-small
raise_to-requires-clause-small c =
    let way = way_small (table_rows c.args.table.now) c.args.there.now c.args.back.now c.args.arc c.requires.table c.requires.both c.requires.light in
    let weight_fits : SFits w64 c.args.arc.weight = search rules in
    let from_fits : SFits w64 c.weight_at.result = search rules in
    let to_fits : SFits w64 c.weight_at-2.result = search rules in
    let home = back_small (table_rows c.args.table.now) c.args.there.now c.args.back.now c.requires.table
    c.requires.both c.args.arc.to c.requires.light.to_activity in
    let back_fits : SFits w64 c.weight_at-3.result = search rules in
    let way_fits : SFits w64 (c.weight_at.result +ℤ c.args.arc.weight) = omega (arith, ints, c.weight_at.ensures, way.at_least, way.at_most) in
    let round_fits : SFits w64 ((c.weight_at.result +ℤ c.args.arc.weight) +ℤ c.weight_at-3.result) =
    omega (
      arith,
      ints,
      c.weight_at.ensures,
      c.weight_at-3.ensures,
      way.at_least,
      way.at_most,
      home.at_least,
      home.at_most,
    ) in
    let more : c.weight_at-2.result <ℤ (c.weight_at.result +ℤ c.args.arc.weight) = simp to_z-of_z at (rw c.if-not-exceeds.false at c.exceeds.ensures) in
    let most : c.weight_at-2.result ≤ℤ (c.weight_at.result +ℤ c.args.arc.weight) = omega (arith, ints, more) in
    let closed : ((c.weight_at.result +ℤ c.args.arc.weight) +ℤ c.weight_at-3.result) ≤ℤ pos 0 =
    simp to_z-of_z at (rw c.if-exceeds.false at c.exceeds-2.ensures) in
    simp to_z-of_z (way_between (table_rows c.args.table.now) c.args.there.now c.args.back.now
    (c.weight_at.result +ℤ c.args.arc.weight) c.args.arc.to c.requires.table c.requires.both
    c.requires.light.to_activity (rw (sym c.weight_at-2.ensures) most) (rw (sym c.weight_at-3.ensures) closed))

pub returns-clause-risen : goal.returns-clause-risen
returns-clause-risen c =
    let way = way_small (table_rows c.args.table.now) c.args.there.now c.args.back.now c.args.arc c.requires.table c.requires.both c.requires.light in
    let weight_fits : SFits w64 c.args.arc.weight = search rules in
    let from_fits : SFits w64 c.weight_at.result = search rules in
    let home = back_small (table_rows c.args.table.now) c.args.there.now c.args.back.now c.requires.table
    c.requires.both c.args.arc.to c.requires.light.to_activity in
    let back_fits : SFits w64 c.weight_at-3.result = search rules in
    let way_fits : SFits w64 (c.weight_at.result +ℤ c.args.arc.weight) = omega (arith, ints, c.weight_at.ensures, way.at_least, way.at_most) in
    let round_fits : SFits w64 ((c.weight_at.result +ℤ c.args.arc.weight) +ℤ c.weight_at-3.result) =
    omega (
      arith,
      ints,
      c.weight_at.ensures,
      c.weight_at-3.ensures,
      way.at_least,
      way.at_most,
      home.at_least,
      home.at_most,
    ) in
    let closed : ((c.weight_at.result +ℤ c.args.arc.weight) +ℤ c.weight_at-3.result) ≤ℤ pos 0 =
    simp to_z-of_z at (rw c.if-exceeds.false at c.exceeds-2.ensures) in
    let raised : IsRaised (table_rows c.args.table.now) c.args.arc.to
    (start c.args.there.now c.args.arc.from +ℤ c.args.arc.weight) c.args.there.now c.raise_to.new.there =
    rw c.weight_at.ensures at (simp to_z-of_z at c.raise_to.ensures) in
    risen_raised (table_rows c.args.table.now) c.args.arc c.args.there.now c.args.back.now c.raise_to.new.there
    c.requires.table c.requires.light c.requires.both
    (rw (sym c.weight_at.ensures, sym c.weight_at-3.ensures) closed) raised

pub returns-clause-raised : goal.returns-clause-raised
returns-clause-raised c =
    let way = way_small (table_rows c.args.table.now) c.args.there.now c.args.back.now c.args.arc c.requires.table c.requires.both c.requires.light in
    let weight_fits : SFits w64 c.args.arc.weight = search rules in
    let from_fits : SFits w64 c.weight_at.result = search rules in
    let way_fits : SFits w64 (c.weight_at.result +ℤ c.args.arc.weight) = omega (arith, ints, c.weight_at.ensures, way.at_least, way.at_most) in
    let raised : IsRaised (table_rows c.args.table.now) c.args.arc.to
    (start c.args.there.now c.args.arc.from +ℤ c.args.arc.weight) c.args.there.now c.raise_to.new.there =
    rw c.weight_at.ensures at (simp to_z-of_z at c.raise_to.ensures) in
    raised_over (table_rows c.args.table.now) c.args.arc.to
    (start c.args.there.now c.args.arc.from +ℤ c.args.arc.weight) c.args.there.now c.raise_to.new.there
    c.requires.table c.requires.light.to_activity raised
