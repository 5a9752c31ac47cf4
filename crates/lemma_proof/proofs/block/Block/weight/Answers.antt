use Rattle.std.proofs.Common.{rules, arith, ◌≡◌, sym, ◌∙◌, ◌<◌, ◌+ℤ◌, Some, length, w64, SFits}
use Rattle.std.proofs.lemmas.Int.{ints, to_z-of_z}
use Rattle.network.specs.Problem.{IsWithin}
use Rattle.network.specs.Schedule.{start}
use Rattle.network.specs.declared.limits.TheConstants.{MAX_WALK_WEIGHT}
use Rattle.network.specs.Walk.{entry}
use Rattle.longest_path.specs.Matrix.{greater}
use Rattle.lemma_proof.proofs.Blocks.{seen_between}
use Rattle.lemma_proof.proofs.Halves.{tails_small}
use Rattle.lemma_proof.proofs.Rising.{there_small}
use Rattle.lemma_proof.proofs.block.Block.weight.Goals as goal

pub returns-then-a-eq0-clause-small : goal.returns-then-a-eq0-clause-small
returns-then-a-eq0-clause-small c =
    let fits : SFits w64 c.head.result = search rules in
    let to : c.args.b < length c.self.inside.heads.rows = rw (sym c.self.view_is) at c.requires.to_activity in
    let small = there_small c.self.inside.heads.rows c.self.inside.heads.heads c.self.inside.tails.heads
    c.head.ensures.law.table c.self.invariant.both c.args.b to in
    simp to_z-of_z (rw c.head.ensures.value (record { at_least = omega (arith, ints, small.at_least); at_most = omega (arith, ints, small.at_most) }))

pub returns-then-b-eq0-clause-small : goal.returns-then-b-eq0-clause-small
returns-then-b-eq0-clause-small c =
    let fits : SFits w64 c.head-then-b-eq0.result = search rules in
    let from : c.args.a < length c.self.inside.heads.rows = rw (sym c.self.view_is) at c.requires.from_activity in
    let small = tails_small c.self.inside.heads.rows c.self.inside.tails.rows c.self.inside.heads.heads
    c.self.inside.tails.heads c.self.invariant.converse c.head-then-b-eq0.ensures.law.table c.self.invariant.both
    c.args.a from in
    simp to_z-of_z (rw c.head-then-b-eq0.ensures.value
    (record { at_least = omega (arith, ints, small.at_least); at_most = omega (arith, ints, small.at_most) }))

pub or_by_start-requires-clause-tail : goal.or_by_start-requires-clause-tail
or_by_start-requires-clause-tail c =
    let fits : SFits w64 c.head-2.result = search rules in
    let from : c.args.a < length c.self.inside.heads.rows = rw (sym c.self.view_is) at c.requires.from_activity in
    let small : IsWithin MAX_WALK_WEIGHT (start c.self.inside.tails.heads c.args.a) =
    tails_small c.self.inside.heads.rows c.self.inside.tails.rows c.self.inside.heads.heads
    c.self.inside.tails.heads c.self.invariant.converse c.head-2.ensures.law.table c.self.invariant.both c.args.a
    from in
    simp to_z-of_z (rw c.head-2.ensures.value small)

pub or_by_start-requires-clause-head : goal.or_by_start-requires-clause-head
or_by_start-requires-clause-head c =
    let fits : SFits w64 c.head-3.result = search rules in
    let to : c.args.b < length c.self.inside.heads.rows = rw (sym c.self.view_is) at c.requires.to_activity in
    let small : IsWithin MAX_WALK_WEIGHT (start c.self.inside.heads.heads c.args.b) =
    there_small c.self.inside.heads.rows c.self.inside.heads.heads c.self.inside.tails.heads
    c.head-3.ensures.law.table c.self.invariant.both c.args.b to in
    simp to_z-of_z (rw c.head-3.ensures.value small)

pub returns-clause-value : goal.returns-clause-value
returns-clause-value c =
    let weight_fits : SFits w64 c.weight.result = search rules in
    let tail_fits : SFits w64 c.head-2.result = search rules in
    let head_fits : SFits w64 c.head-3.result = search rules in
    let fits : SFits w64 c.or_by_start.result = search rules in
    let sum : greater (Some c.weight.result) (Some (c.head-2.result +ℤ c.head-3.result)) ≡ Some c.or_by_start.result =
    simp to_z-of_z at c.or_by_start.ensures.value in
    let here : greater (entry c.self.inside.heads.rows c.args.a c.args.b)
    (Some (start c.self.inside.tails.heads c.args.a +ℤ start c.self.inside.heads.heads c.args.b)) ≡ Some
    c.or_by_start.result = rw (c.weight.ensures.value, ← c.head-2.ensures.value, ← c.head-3.ensures.value) sum in
    simp to_z-of_z (rw (← c.self.view_is) (seen_between c.self.inside.heads.rows c.self.inside.heads.heads
    c.self.inside.tails.heads c.args.a c.args.b (omega arith) (omega arith) ∙ here))
