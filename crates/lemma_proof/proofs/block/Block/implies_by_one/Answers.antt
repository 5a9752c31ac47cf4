use Rattle.std.proofs.Common.{rules, arith, sym, subst, ◌+ℤ◌, ◌≤ℤ◌, ◌<◌, length, w64, SFits}
use Rattle.std.specs.List.{Contains}
use Rattle.std.proofs.lemmas.Int.{ints, to_z-of_z}
use Rattle.lemma_proof.specs.Implied.{ImpliesWith}
use Rattle.lemma_proof.specs.Block.{BlockOf}
use Rattle.lemma_proof.proofs.Blocks.{implied_over}
use Rattle.lemma_proof.proofs.block.Block.implies_by_one.Goals as goal

pub overflow_add-first : goal.overflow_add-first
overflow_add-first c =
    let there : Contains c.self.inside.heads.arcs c.arc-over.result = (c.loop-index.index, omega arith, c.arc-over.ensures) in
    let light = (c.arc_count-index-end.ensures.law.arcs_light c.arc-over.result there).light in
    omega (arith, ints, light.at_least, light.at_most, c.weight-first.ensures.small.at_least, c.weight-first.ensures.small.at_most)

pub overflow_add-first-in-loop-index : goal.overflow_add-first-in-loop-index
overflow_add-first-in-loop-index c =
    let there : Contains c.self.inside.heads.arcs c.arc-over.result = (c.loop-index.index, omega arith, c.arc-over.ensures) in
    let light = (c.arc_count-index-end.ensures.law.arcs_light c.arc-over.result there).light in
    omega (
      arith,
      ints,
      light.at_least,
      light.at_most,
      c.weight-first.ensures.small.at_least,
      c.weight-first.ensures.small.at_most,
      c.weight-last.ensures.small.at_least,
      c.weight-last.ensures.small.at_most,
    )

pub returns-then-arc-first : goal.returns-then-arc-first
returns-then-arc-first c = λ yes own m.
    let there : Contains c.self.inside.heads.arcs c.arc-over.result = (c.loop-index.index, omega arith, c.arc-over.ensures) in
    let light = (c.arc_count-index-end.ensures.law.arcs_light c.arc-over.result there).light in
    let weight_fits : SFits w64 c.args.arc.weight = search rules in
    let over_fits : SFits w64 c.arc-over.result.weight = search rules in
    let first_fits : SFits w64 c.weight-first.result = search rules in
    let last_fits : SFits w64 c.weight-last.result = search rules in
    let one_fits : SFits w64 (c.weight-first.result +ℤ c.arc-over.result.weight) =
    omega (
      arith,
      ints,
      light.at_least,
      light.at_most,
      c.weight-first.ensures.small.at_least,
      c.weight-first.ensures.small.at_most,
    ) in
    let sum_fits : SFits w64 ((c.weight-first.result +ℤ c.arc-over.result.weight) +ℤ c.weight-last.result) =
    omega (
      arith,
      ints,
      light.at_least,
      light.at_most,
      c.weight-first.ensures.small.at_least,
      c.weight-first.ensures.small.at_most,
      c.weight-last.ensures.small.at_least,
      c.weight-last.ensures.small.at_most,
    )
    in
    let test = simp to_z-of_z at c.if-arc-first.true in
    let le : c.args.arc.weight ≤ℤ ((c.weight-first.result +ℤ c.arc-over.result.weight) +ℤ c.weight-last.result) = grind (arith, ints, test) in
    let from : c.args.arc.from < length c.self.inside.heads.rows = rw (sym c.self.view_is) at c.requires.from_activity in
    let to : c.args.arc.to < length c.self.inside.heads.rows = rw (sym c.self.view_is) at c.requires.to_activity in
    let all = implied_over c.self.inside.heads.rows c.self.inside.more.items c.args.arc c.arc-over.result
    c.weight-first.result c.weight-last.result (c.self.invariant.part c.arc-over.result there)
    (c.arc_count-index-end.ensures.law.arcs_light c.arc-over.result there) from to c.weight-first.ensures.value
    c.weight-last.ensures.value le in
    subst (λ (b : BlockOf). ImpliesWith (length b.rows) b.rows b.more c.args.arc) c.self.view_is all own m

pub weight-first-requires-clause-to_activity : goal.weight-first-requires-clause-to_activity
weight-first-requires-clause-to_activity c =
    let there : Contains c.self.inside.heads.arcs c.arc-over.result = (c.loop-index.index, omega arith, c.arc-over.ensures) in
    (c.arc_count-index-end.ensures.law.arcs_light c.arc-over.result there).from_activity
