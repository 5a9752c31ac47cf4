use Rattle.std.proofs.Common.{◌≡◌, ap, ◌∙◌, length, None, List}
use Rattle.network.specs.declared.parts.Lag.{Lag}
use Rattle.network.specs.Problem.{activity_count}
use Rattle.lemma_proof.specs.Reasons.{Entries}
use Rattle.lemma_proof.proofs.KnownWalks.{length-entries}
use Rattle.lemma_proof.specs.Lines.{IsOverload, impossible}
use Rattle.lemma_proof.proofs.Told.{told_seen}
use Rattle.lemma_proof.proofs.shows.seen_pushed_arc.Goals as goal

pub ended_arc-requires : goal.ended_arc-requires
ended_arc-requires c = ap (λ (x : Entries). length x.rows) c.seen.ensures ∙ length-entries None c.args.block.now ∙ c.requires.size

pub returns-in_default-clause-pushed : goal.returns-in_default-clause-pushed
returns-in_default-clause-pushed c = λ own m live.
    rw c.in_default.is (told_seen (activity_count c.args.project.now) c.args.block.now c.seen.result c.ended_arc.result
    (λ (all : List Lag) (e : Lag). IsOverload c.args.project.now c.args.lemmas.now all c.args.over.now × (e ≡ impossible))
    c.requires.size c.activity_count.ensures.law c.seen.ensures c.ended_arc.ensures.told own m live)
