use Rattle.std.proofs.Common.{◌≡◌, ap, ◌∙◌, length, None, List}
use Rattle.network.specs.declared.parts.Lag.{Lag}
use Rattle.network.specs.Problem.{activity_count, pair_arc}
use Rattle.lemma_proof.specs.Reasons.{Entries}
use Rattle.lemma_proof.proofs.KnownWalks.{length-entries}
use Rattle.lemma_proof.specs.Lines.{IsForced, IsUse}
use Rattle.lemma_proof.proofs.Told.{told_seen}
use Rattle.lemma_proof.proofs.shows.seen_arc.Goals as goal

pub forced_arc-requires : goal.forced_arc-requires
forced_arc-requires c = ap (λ (x : Entries). length x.rows) c.seen.ensures ∙ length-entries None c.args.block.now ∙ c.requires.size

pub used_arc-requires-clause-size : goal.used_arc-requires-clause-size
used_arc-requires-clause-size c = ap (λ (x : Entries). length x.rows) c.seen-in-Use.ensures ∙ length-entries None c.args.block.now ∙ c.requires.size

pub returns-in-Force-clause-shown : goal.returns-in-Force-clause-shown
returns-in-Force-clause-shown c = λ own m live.
    rw c.in-Force.is (told_seen (activity_count c.args.project.now) c.args.block.now c.seen.result c.forced_arc.result
    (λ (all : List Lag) (e : Lag). IsForced c.args.project.now all c.in-Force.pair
    × (e ≡ pair_arc c.args.project.now c.in-Force.pair)) c.requires.size c.activity_count.ensures.law c.seen.ensures
    c.forced_arc.ensures.told own m live)

pub returns-in-Use-clause-shown : goal.returns-in-Use-clause-shown
returns-in-Use-clause-shown c = λ own m live.
    rw c.in-Use.is (told_seen (activity_count c.args.project.now) c.args.block.now c.seen-in-Use.result
    c.used_arc.result (λ (all : List Lag) (e : Lag). IsUse c.args.lemmas.now all c.in-Use.slot e) c.requires.size
    c.activity_count.ensures.law c.seen-in-Use.ensures c.used_arc.ensures.told own m live)
