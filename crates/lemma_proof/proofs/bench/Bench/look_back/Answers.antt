use Rattle.std.proofs.Common.{◌≡◌, sym, subst, rules, arith, length, List, ◌++◌, ◌≤ℤ◌, ◌-ℤ◌, pos, w64, SFits}
use Rattle.std.specs.List.{Contains}
use Rattle.std.proofs.lemmas.Int.{ints, to_z-of_z}
use Rattle.std.proofs.lemmas.List.Elements.{Contains-append_right}
use Rattle.network.specs.Walk.{IsMatrixOf, HasPositiveCycle}
use Rattle.longest_path.specs.Insert.{arc_of}
use Rattle.lemma_proof.specs.Bench.{BenchOf}
use Rattle.lemma_proof.specs.Implied.{Implies}
use Rattle.lemma_proof.proofs.Held.{cycle_back}
use Rattle.lemma_proof.proofs.bench.Bench.look_back.Goals as goal

pub returns-then-implies_by_one-clause-made : goal.returns-then-implies_by_one-clause-made
returns-then-implies_by_one-clause-made c = λ own m.
    let fits : SFits w64 c.args.arc.weight = search rules in
    let back_fits : SFits w64 (pos 1 -ℤ c.args.arc.weight) =
    omega (arith, ints, c.requires.light.light.at_least, c.requires.light.light.at_most) in
    let here : IsMatrixOf (length c.self.inside.matrix.rows) own c.self.inside.matrix.rows =
    subst (λ (x : BenchOf). IsMatrixOf (length x.rows) own x.rows) (sym c.self.view_is) m in
    let beside : Contains c.self.inside.block.more c.args.arc =
    subst (λ (x : BenchOf). Contains x.more c.args.arc) (sym c.self.view_is) c.requires.beside in
    let implied : Implies (own ++ c.self.inside.block.more) (arc_of c.args.arc.to c.args.arc.from (pos 1 -ℤ c.args.arc.weight)) =
    simp to_z-of_z at (c.implies_by_one.ensures c.if-implies_by_one.true own (rw c.self.invariant.same here)) in
    subst (λ (x : BenchOf). HasPositiveCycle (own ++ x.more)) c.self.view_is
    (cycle_back (own ++ c.self.inside.block.more) c.args.arc (pos 1 -ℤ c.args.arc.weight)
    (Contains-append_right own c.self.inside.block.more c.args.arc beside) (omega (arith, ints)) implied)
