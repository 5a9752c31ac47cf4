use Rattle.std.proofs.Common.{◌≡◌, sym, IsTrue, List, Some, ◌∙◌}
use Rattle.std.proofs.lemmas.Bool.{false≢true}
use Rattle.network.specs.declared.parts.Lag.{Lag}
use Rattle.network.specs.Problem.{activity_count}
use Rattle.lemma_proof.specs.Lines.{IsOverload, IsPushed, impossible}
use Rattle.lemma_proof.proofs.Told.{told_exact}
use Rattle.lemma_proof.proofs.shows.pushed_arc.Goals as goal

pub returns-in_default-clause-shown : goal.returns-in_default-clause-shown
returns-in_default-clause-shown c = λ arcs m.
    rw c.in_default.is (told_exact (activity_count c.args.project.now) c.args.matrix.now c.of.result c.ended_arc.result
    (λ (all : List Lag) (e : Lag). IsOverload c.args.project.now c.args.lemmas.now all c.args.over.now × (e ≡ impossible))
    c.of.ensures c.ended_arc.ensures.told arcs m)

pub returns-else-is_pushed-clause-shown : goal.returns-else-is_pushed-clause-shown
returns-else-is_pushed-clause-shown c = λ arcs m e pushed.
    let here : IsPushed c.args.project.now c.args.lemmas.now arcs (Some c.in-Some.arc) c.args.over.now e = rw c.in-Some.is at pushed in
    let yes : IsTrue c.is_pushed.result = (c.is_pushed.ensures arcs m).1 here.1 in
    false≢true (sym c.if-is_pushed.false ∙ yes)
