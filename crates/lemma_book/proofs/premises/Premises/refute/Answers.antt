use Rattle.std.proofs.Common.{◌≡◌, sym, List, Vec, ℕ, [], length, MatchOption}
use Rattle.std.specs.declared.alloc.Global.{Global}
use Rattle.std.proofs.lemmas.Result.{IfOk-weaker}
use Rattle.network.specs.declared.parts.Lag.{Lag}
use Rattle.network.specs.Problem.{activity_count}
use Rattle.network.specs.Walk.{IsMatrixOf, HasPositiveCycle}
use Rattle.lemma_proof.specs.Lines.{IsRefuted, picked}
use Rattle.lemma_book.specs.Premises.{PremisesOf, premises_of, root_arcs}
use Rattle.lemma_book.proofs.Premised.{ended_refutes}
use Rattle.lemma_book.proofs.premises.Premises.refute.Goals as goal

pub returns-then-are_arcs-clause-refuted : goal.returns-then-are_arcs-clause-refuted
returns-then-are_arcs-clause-refuted c =
    let x : PremisesOf = premises_of c.self.inside.project.now c.self.inside.roots.items c.self.inside.lemmas in
    let cycle : HasPositiveCycle (root_arcs x) = rw c.in_default.is at c.self.invariant.root in
    let are = c.are_arcs.ensures.0 c.if-are_arcs.true in
    rw (sym c.self.view_is, c.new.ensures.items) (ended_refutes x c.args.arcs.now c.args.lines.now are cycle, ended_refutes x c.args.arcs.now [] are cycle)

pub returns-clause-refuted : goal.returns-clause-refuted
returns-clause-refuted c =
    let x : PremisesOf = premises_of c.self.inside.project.now c.self.inside.roots.items c.self.inside.lemmas in
    let m : IsMatrixOf (activity_count c.self.inside.project.now) (root_arcs x) c.in-Some.bench.rows = rw c.in-Some.is at c.self.invariant.root in
    let long : length c.in-Some.bench.rows ≡ activity_count c.self.inside.project.now = m.square.0 in
    let told = rw long at c.refute.ensures.refuted in
    rw (sym c.self.view_is) (IfOk-weaker c.refute.result
    (λ found. (own : List Lag) → IsMatrixOf (activity_count c.self.inside.project.now) own c.in-Some.bench.rows →
    MatchOption found (¬ IsRefuted c.self.inside.project.now c.self.inside.lemmas own c.args.arcs.now c.args.lines.now)
    (λ (used : Vec ℕ Global). IsRefuted c.self.inside.project.now c.self.inside.lemmas own c.args.arcs.now
    c.args.lines.now × IsRefuted c.self.inside.project.now c.self.inside.lemmas own c.args.arcs.now
    (picked c.args.lines.now used.items)))
    (λ found. MatchOption found (¬ IsRefuted c.self.inside.project.now c.self.inside.lemmas (root_arcs x) c.args.arcs.now c.args.lines.now)
    (λ (used : Vec ℕ Global). IsRefuted c.self.inside.project.now c.self.inside.lemmas (root_arcs x)
    c.args.arcs.now c.args.lines.now × IsRefuted c.self.inside.project.now c.self.inside.lemmas (root_arcs x)
    c.args.arcs.now (picked c.args.lines.now used.items)))
    (λ found all. all (root_arcs x) m) told)
