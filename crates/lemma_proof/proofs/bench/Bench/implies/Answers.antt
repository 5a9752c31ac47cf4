use Rattle.std.proofs.Common.{◌≡◌, sym, ap, ◌∙◌, true, None, Some, length, ◌++◌}
use Rattle.network.specs.Walk.{IsMatrixOf, HasNoPositiveCycle}
use Rattle.lemma_proof.specs.Reasons.{Entries, Implies, TellsWhether}
use Rattle.lemma_proof.proofs.KnownBlocks.{told_by}
use Rattle.lemma_proof.proofs.KnownWalks.{known_matrix, length-entries}
use Rattle.lemma_proof.specs.Bench.{BenchOf}
use Rattle.lemma_proof.proofs.Held.{all_there, live_there}
use Rattle.lemma_proof.proofs.bench.Bench.implies.Goals as goal

pub implies-requires-in-None-clause-from_activity : goal.implies-requires-in-None-clause-from_activity
implies-requires-in-None-clause-from_activity c =
    let long : length c.seen.result.rows ≡ length c.args.self.now.rows =
    ap (λ (x : Entries). length x.rows) c.seen.ensures ∙ length-entries None c.self.inside.block
    ∙ ap length c.self.invariant.same ∙ ap (λ (x : BenchOf). length x.rows) c.self.view_is in
    rw long c.requires.light.from_activity

pub implies-requires-in-None-clause-to_activity : goal.implies-requires-in-None-clause-to_activity
implies-requires-in-None-clause-to_activity c =
    let long : length c.seen.result.rows ≡ length c.args.self.now.rows =
    ap (λ (x : Entries). length x.rows) c.seen.ensures ∙ length-entries None c.self.inside.block
    ∙ ap length c.self.invariant.same ∙ ap (λ (x : BenchOf). length x.rows) c.self.view_is in
    rw long c.requires.light.to_activity

pub returns-in-Some : goal.returns-in-Some
returns-in-Some c = λ yes own arcs h.
    let dense : c.args.self.now.dense ≡ Some c.in-Some.dense = sym (ap (λ (x : BenchOf). x.dense) c.self.view_is) ∙ c.in-Some.is in
    let m : IsMatrixOf (length c.args.self.now.rows) (own ++ arcs) c.in-Some.dense.rows =
    all_there own arcs c.args.self.now c.in-Some.dense c.requires.live dense h in
    let long : length c.of.result.rows ≡ length c.args.self.now.rows = ap (λ (x : Entries). length x.rows) c.of.ensures
    ∙ ap length c.matrix.ensures ∙ m.square.0 in
    let told : TellsWhether (length c.args.self.now.rows) c.of.result c.implies.result (λ all. Implies all c.args.arc) = rw long at c.implies.ensures in
    (told true (own ++ arcs) (rw (c.of.ensures, c.matrix.ensures) (known_matrix (length c.args.self.now.rows) (own ++ arcs) c.in-Some.dense.rows m))).shown yes

pub returns-in-None : goal.returns-in-None
returns-in-None c = λ yes own arcs h.
    let dense : c.args.self.now.dense ≡ None = sym (ap (λ (x : BenchOf). x.dense) c.self.view_is) ∙ c.in-None.is in
    let here = live_there own arcs c.args.self.now c.requires.live dense h in
    let more : c.self.inside.block.more ≡ arcs = ap (λ (x : BenchOf). x.more) c.self.view_is ∙ here.0 in
    let rows : c.self.inside.block.rows ≡ c.args.self.now.rows = c.self.invariant.same ∙ ap (λ (x : BenchOf). x.rows) c.self.view_is in
    let long : length c.seen.result.rows ≡ length c.args.self.now.rows =
    ap (λ (x : Entries). length x.rows) c.seen.ensures ∙ length-entries None c.self.inside.block ∙ ap length rows in
    let told : TellsWhether (length c.args.self.now.rows) c.seen.result c.implies-in-None.result
    (λ all. Implies all c.args.arc) = rw long at c.implies-in-None.ensures in
    let m : IsMatrixOf (length c.args.self.now.rows) own c.self.inside.block.rows = rw rows h.root in
    let live : HasNoPositiveCycle (own ++ c.self.inside.block.more) = rw more here.1 in
    let found : Implies (own ++ c.self.inside.block.more) c.args.arc =
    told_by (length c.args.self.now.rows) c.self.inside.block own (λ all. Implies all c.args.arc)
    c.implies-in-None.result c.seen.result (ap length rows) c.activity_count.ensures.law m live c.seen.ensures told
    yes in
    rw more at found
