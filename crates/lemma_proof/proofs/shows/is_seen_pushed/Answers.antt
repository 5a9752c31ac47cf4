use Rattle.std.proofs.Common.{◌≡◌, sym, ◌∙◌, ap, ◌++◌, ◌∷◌, [], length, false, None, Some, inl}
use Rattle.network.specs.Problem.{activity_count}
use Rattle.lemma_proof.specs.Block.{AreEnds}
use Rattle.lemma_proof.specs.Reasons.{Entries, TellsWhether, Implies, entries_of_block, reverse_of}
use Rattle.lemma_proof.proofs.KnownWalks.{length-entries}
use Rattle.lemma_proof.proofs.KnownBlocks.{shown_by_trial, told_by}
use Rattle.lemma_proof.specs.Lines.{IsOverload}
use Rattle.lemma_proof.proofs.shows.is_seen_pushed.Goals as goal

pub implies-requires-clause-from_activity : goal.implies-requires-clause-from_activity
implies-requires-clause-from_activity c =
    let long : length c.seen.result.rows ≡ activity_count c.args.project.now =
    ap (λ (x : Entries). length x.rows) c.seen.ensures ∙ length-entries None c.args.block.now ∙ c.requires.size in
    rw long c.requires.arc.joins.0

pub implies-requires-clause-to_activity : goal.implies-requires-clause-to_activity
implies-requires-clause-to_activity c =
    let long : length c.seen.result.rows ≡ activity_count c.args.project.now =
    ap (λ (x : Entries). length x.rows) c.seen.ensures ∙ length-entries None c.args.block.now ∙ c.requires.size in
    rw long c.requires.arc.joins.1

pub returns-then-implies-clause-pushed : goal.returns-then-implies-clause-pushed
returns-then-implies-clause-pushed c = λ _ own m live.
    let long : length c.seen.result.rows ≡ activity_count c.args.project.now =
    ap (λ (x : Entries). length x.rows) c.seen.ensures ∙ length-entries None c.args.block.now ∙ c.requires.size in
    let tells : TellsWhether (activity_count c.args.project.now) c.seen.result c.implies.result
    (λ arcs. Implies arcs c.args.arc) = rw long at c.implies.ensures in
    inl (told_by (activity_count c.args.project.now) c.args.block.now own (λ arcs. Implies arcs c.args.arc)
    c.implies.result c.seen.result c.requires.size c.activity_count.ensures.law m live c.seen.ensures tells
    c.if-implies.true)

pub is_overload-requires : goal.is_overload-requires
is_overload-requires c = ap (λ (x : Entries). length x.rows) c.seen-2.ensures
    ∙ length-entries (Some c.reverse_of-reverse.result) c.try_arc.new.self ∙ ap length c.try_arc.ensures.rows
    ∙ c.requires.size

pub returns-clause-pushed : goal.returns-clause-pushed
returns-clause-pushed c = λ yes own m live.
    let x = c.try_arc.new.self in
    let rows = c.try_arc.ensures.rows in
    let ends : AreEnds c.try_arc.new.self.rows (c.args.block.now.more ++ reverse_of c.args.arc ∷ [])
    c.try_arc.new.self.tried_heads c.try_arc.new.self.tried_tails =
    rw (rows, sym c.reverse_of-reverse.ensures) c.try_arc.ensures.tried in
    let tells : TellsWhether (activity_count c.args.project.now)
    (entries_of_block (Some (reverse_of c.args.arc)) c.try_arc.new.self) c.is_overload.result
    (λ arcs. IsOverload c.args.project.now c.args.lemmas.now arcs c.args.over.now) =
    rw (c.seen-2.ensures, c.reverse_of-reverse.ensures) at c.is_overload.ensures in
    shown_by_trial (activity_count c.args.project.now) x own c.args.block.now.more c.args.arc
    (λ arcs. IsOverload c.args.project.now c.args.lemmas.now arcs c.args.over.now) (ap length rows ∙ c.requires.size)
    c.try_arc.ensures.more c.requires.arc.joins.0 c.requires.arc.joins.1
    (λ f there. let light = c.activity_count.ensures.law.light f there
    in (rw (sym c.requires.size) light.from_activity, rw (sym c.requires.size) light.to_activity))
    ends (rw rows m) live (λ arcs known. (tells false arcs known).shown yes)
