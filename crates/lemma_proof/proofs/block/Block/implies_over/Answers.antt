use Rattle.std.proofs.Common.{rules, arith, subst, sym, ◌+ℤ◌, ◌≤ℤ◌, ◌<◌, ◌∷◌, [], length, w64, SFits}
use Rattle.std.proofs.lemmas.Int.{ints, to_z-of_z}
use Rattle.lemma_proof.specs.Implied.{ImpliesWith}
use Rattle.lemma_proof.specs.Block.{BlockOf}
use Rattle.lemma_proof.specs.Heads.{IsLight}
use Rattle.lemma_proof.proofs.Blocks.{implied_by_arc}
use Rattle.lemma_proof.proofs.block.Block.implies_over.Goals as goal

pub overflow_add-result : goal.overflow_add-result
overflow_add-result c =
    let light = c.requires.over.light in
    omega (arith, ints, light.at_least, light.at_most, c.weight-first.ensures.small.at_least, c.weight-first.ensures.small.at_most)

pub overflow_add-result-2 : goal.overflow_add-result-2
overflow_add-result-2 c =
    let light = c.requires.over.light in
    omega (
      arith,
      ints,
      light.at_least,
      light.at_most,
      c.weight-first.ensures.small.at_least,
      c.weight-first.ensures.small.at_most,
      c.weight-last.ensures.small.at_least,
      c.weight-last.ensures.small.at_most,
    )

pub returns : goal.returns
returns c = λ yes.
    let light = c.requires.over.light in
    let weight_fits : SFits w64 c.args.arc.weight = search rules in
    let over_fits : SFits w64 c.args.over.weight = search rules in
    let first_fits : SFits w64 c.weight-first.result = search rules in
    let last_fits : SFits w64 c.weight-last.result = search rules in
    let one_fits : SFits w64 (c.weight-first.result +ℤ c.args.over.weight) =
    omega (
      arith,
      ints,
      light.at_least,
      light.at_most,
      c.weight-first.ensures.small.at_least,
      c.weight-first.ensures.small.at_most,
    ) in
    let sum_fits : SFits w64 ((c.weight-first.result +ℤ c.args.over.weight) +ℤ c.weight-last.result) =
    omega (
      arith,
      ints,
      light.at_least,
      light.at_most,
      c.weight-first.ensures.small.at_least,
      c.weight-first.ensures.small.at_most,
      c.weight-last.ensures.small.at_least,
      c.weight-last.ensures.small.at_most,
    )
    in
    let test = simp to_z-of_z at yes in
    let le : c.args.arc.weight ≤ℤ ((c.weight-first.result +ℤ c.args.over.weight) +ℤ c.weight-last.result) = grind (arith, ints, test) in
    let from : c.args.arc.from < length c.self.inside.heads.rows = rw (sym c.self.view_is) at c.requires.from_activity in
    let to : c.args.arc.to < length c.self.inside.heads.rows = rw (sym c.self.view_is) at c.requires.to_activity in
    let here : IsLight (length c.self.inside.heads.rows) c.args.over = rw (sym c.self.view_is) at c.requires.over in
    let all = implied_by_arc c.self.inside.heads.rows c.args.arc c.args.over c.weight-first.result c.weight-last.result
    here from to c.weight-first.ensures.value c.weight-last.ensures.value le in
    subst (λ (b : BlockOf). ImpliesWith (length b.rows) b.rows (c.args.over ∷ []) c.args.arc) c.self.view_is all
