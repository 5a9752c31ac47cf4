use Rattle.std.proofs.Common.{◌≡◌, List}
use Rattle.network.specs.declared.parts.Lag.{Lag}
use Rattle.network.specs.Problem.{activity_count, pair_arc}
use Rattle.lemma_proof.specs.Lines.{IsForced, IsUse}
use Rattle.lemma_proof.proofs.Told.{told_exact}
use Rattle.lemma_proof.proofs.shows.shown_arc.Goals as goal

pub returns-in-Force-clause-shown : goal.returns-in-Force-clause-shown
returns-in-Force-clause-shown c = λ arcs m.
    rw c.in-Force.is (told_exact (activity_count c.args.project.now) c.args.matrix.now c.of.result c.forced_arc.result
    (λ (all : List Lag) (e : Lag). IsForced c.args.project.now all c.in-Force.pair
    × (e ≡ pair_arc c.args.project.now c.in-Force.pair)) c.of.ensures c.forced_arc.ensures.told arcs m)

pub returns-in-Use-clause-shown : goal.returns-in-Use-clause-shown
returns-in-Use-clause-shown c = λ arcs m.
    rw c.in-Use.is (told_exact (activity_count c.args.project.now) c.args.matrix.now c.of-in-Use.result
    c.used_arc.result (λ (all : List Lag) (e : Lag). IsUse c.args.lemmas.now all c.in-Use.slot e)
    c.of-in-Use.ensures c.used_arc.ensures.told arcs m)

pub returns-in-Push-clause-shown : goal.returns-in-Push-clause-shown
returns-in-Push-clause-shown c = λ arcs m. rw c.in-Push.is (c.pushed_arc.ensures.shown arcs m)
