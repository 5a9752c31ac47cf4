use Rattle.std.proofs.Common.{◌≡◌, sym, ap, ◌∙◌, ◌++◌, ◌∷◌, [], length, false, true}
use Rattle.network.specs.Walk.{IsMatrixOf}
use Rattle.longest_path.specs.Insert.{rows_over}
use Rattle.longest_path.specs.Matrix.{IsMatrix}
use Rattle.lemma_proof.specs.Block.{IsInserted}
use Rattle.lemma_proof.specs.Heads.{IsLight}
use Rattle.lemma_proof.specs.Bench.{BenchOf}
use Rattle.lemma_proof.proofs.Wide.{taken_none, taken_rows}
use Rattle.lemma_proof.proofs.bench.Bench.add_root.Goals as goal

pub returns-then-branch-clause-added : goal.returns-then-branch-clause-added
returns-then-branch-clause-added c = λ own m.
    let rows = ap (λ (x : BenchOf). x.rows) c.self.view_is in
    let taken : IsInserted c.args.arc c.self.inside.matrix c.take_arc.new.dense true = rw c.if-branch.true at c.in_ok-take_arc.ensures.taken in
    let here : IsMatrixOf (length c.self.inside.matrix.rows) own c.self.inside.matrix.rows = rw rows m in
    let found = taken.0 own here in
    (c.args.arc.from, found.0, found.1)

pub take_root-requires-clause-none : goal.take_root-requires-clause-none
take_root-requires-clause-none c =
    let law : IsMatrix c.self.inside.matrix.rows = rw c.self.invariant.same at c.activity_count.ensures.law.matrix in
    let light : IsLight (length c.self.inside.matrix.rows) c.args.arc = rw (sym c.self.view_is) at c.requires in
    let taken : IsInserted c.args.arc c.self.inside.matrix c.take_arc.new.dense false = rw c.if-branch.false at c.in_ok-take_arc.ensures.taken in
    rw c.self.invariant.same (taken_none c.args.arc c.self.inside.matrix c.take_arc.new.dense law light taken)

pub invariant_of-self-2 : goal.invariant_of-self-2
invariant_of-self-2 c =
    let law : IsMatrix c.self.inside.matrix.rows = rw c.self.invariant.same at c.activity_count.ensures.law.matrix in
    let light : IsLight (length c.self.inside.matrix.rows) c.args.arc = rw (sym c.self.view_is) at c.requires in
    let taken : IsInserted c.args.arc c.self.inside.matrix c.take_arc.new.dense false = rw c.if-branch.false at c.in_ok-take_arc.ensures.taken in
    let same : rows_over c.args.arc c.self.inside.matrix.rows ≡ c.take_arc.new.dense.rows =
    taken_rows c.args.arc c.self.inside.matrix c.take_arc.new.dense law light taken in
    let wide = c.in_ok-take_arc.ensures.wide in
    record {
      same = c.take_root.ensures.rows ∙ rw c.self.invariant.same same;
      full = wide.full;
      some = rw wide.long c.self.invariant.some;
      wide = record {};
    }

pub returns-clause-added : goal.returns-clause-added
returns-clause-added c = λ own m.
    let rows = ap (λ (x : BenchOf). x.rows) c.self.view_is in
    let taken : IsInserted c.args.arc c.self.inside.matrix c.take_arc.new.dense false = rw c.if-branch.false at c.in_ok-take_arc.ensures.taken in
    let here : IsMatrixOf (length c.self.inside.matrix.rows) own c.self.inside.matrix.rows = rw rows m in
    let all : IsMatrixOf (length c.self.inside.matrix.rows) (own ++ c.args.arc ∷ []) c.take_arc.new.dense.rows = taken.0 own here in
    rw (sym rows) all
