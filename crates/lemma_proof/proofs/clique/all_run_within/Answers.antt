use Rattle.std.proofs.Common.{rules, get_or, w64, SFits}
use Rattle.std.proofs.lemmas.Int.{to_z-of_z}
use Rattle.std.proofs.lemmas.List.Elements.{All-more}
use Rattle.lemma_proof.specs.Reasons.{Tells, RunsWithin}
use Rattle.lemma_proof.proofs.Loops.{tells_false, some_fails, none_fails}
use Rattle.lemma_proof.proofs.clique.all_run_within.Goals as goal

pub returns-then-not-runs_within : goal.returns-then-not-runs_within
returns-then-not-runs_within c = λ exact arcs m.
    let from_fits : SFits w64 c.args.from = search rules in
    let to_fits : SFits w64 c.args.to = search rules in
    let here : Tells exact c.runs_within.result
    (RunsWithin c.args.project.now arcs c.args.from c.args.to
    (get_or c.args.members.now c.loop-member.member-index 0)) =
    simp to_z-of_z at (c.runs_within.ensures exact arcs m) in
    some_fails (RunsWithin c.args.project.now arcs c.args.from c.args.to) c.args.members.now c.loop-member.member-index
    0 c.loop-member-test.true (tells_false here c.if-not-runs_within.true)

pub loop-member-preserved : goal.loop-member-preserved
loop-member-preserved c = λ exact arcs m.
    let from_fits : SFits w64 c.args.from = search rules in
    let to_fits : SFits w64 c.args.to = search rules in
    let here : Tells exact c.runs_within.result
    (RunsWithin c.args.project.now arcs c.args.from c.args.to
    (get_or c.args.members.now c.loop-member.member-index 0)) =
    simp to_z-of_z at (c.runs_within.ensures exact arcs m) in
    simp to_z-of_z (All-more (RunsWithin c.args.project.now arcs c.args.from c.args.to) c.args.members.now
    c.loop-member.member-index 0 c.loop-member-test.true (simp to_z-of_z at (c.loop-member.invariant exact arcs m))
    (here.shown c.if-not-runs_within.false))

pub returns : goal.returns
returns c = λ exact arcs m.
    let from_fits : SFits w64 c.args.from = search rules in
    let to_fits : SFits w64 c.args.to = search rules in
    none_fails (RunsWithin c.args.project.now arcs c.args.from c.args.to) c.args.members.now c.loop-member.member-index
    c.loop-member-test.false (simp to_z-of_z at (c.loop-member.invariant exact arcs m))
