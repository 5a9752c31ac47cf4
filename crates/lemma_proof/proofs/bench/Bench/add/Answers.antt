use Rattle.std.proofs.Common.{◌≡◌, refl, sym, ap, subst, ◌∙◌, Some, length}
use Rattle.lemma_proof.specs.Block.{IsToldOf}
use Rattle.lemma_proof.specs.Bench.{BenchOf, Holds, IsWide, bench_of}
use Rattle.lemma_proof.proofs.Held.{held_taken, held_told}
use Rattle.lemma_proof.proofs.bench.Bench.add.Goals as goal

pub returns-in-Some-clause-added : goal.returns-in-Some-clause-added
returns-in-Some-clause-added c = λ own arcs h.
    let x : BenchOf = bench_of c.self.inside.matrix.rows c.self.inside.block c.self.inside.dense c.self.inside.is_infeasible in
    let here : Holds own arcs x = subst (Holds own arcs) (sym c.self.view_is) h in
    let is : c.self.inside.dense ≡ Some c.in-Some.dense = sym c.take.ensures.value ∙ c.in-Some.is in
    let wide : IsWide (length c.self.inside.matrix.rows) c.in-Some.dense = rw is at c.self.invariant.wide in
    held_taken own arcs x _ c.args.arc c.in-Some.dense c.take_arc.new.dense
    (ap (λ (b : BenchOf). b.is_infeasible) c.self.view_is ∙ c.requires.live) is wide.long here
    c.in_ok-self-inside.ensures.taken refl refl

pub returns-in-Some-2-clause-added : goal.returns-in-Some-2-clause-added
returns-in-Some-2-clause-added c = λ own arcs h.
    let x : BenchOf = bench_of c.self.inside.matrix.rows c.self.inside.block c.self.inside.dense c.self.inside.is_infeasible in
    let here : Holds own arcs x = subst (Holds own arcs) (sym c.self.view_is) h in
    let rows = c.in_ok-is_infeasible.ensures.rows ∙ c.self.invariant.same in
    let told : IsToldOf (length c.self.inside.matrix.rows) c.self.inside.matrix.rows c.add.new.self.more
    (Some c.in-Some-2.is_infeasible) = rw (c.in-Some-2.is, rows) at c.in_ok-is_infeasible.ensures.told in
    held_told own arcs x _ c.args.arc (ap (λ (b : BenchOf). b.is_infeasible) c.self.view_is ∙ c.requires.live)
    (sym c.take.ensures.value ∙ c.in_default.is) here told c.in_ok-is_infeasible.ensures.more c.take.ensures.after
    refl
