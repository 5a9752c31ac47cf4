use Rattle.std.proofs.Common.{◌≡◌, arith, rules, ◌+ℤ◌, pos, w64, ◌<ℤ◌, unsigned_abs, SFits, to_z}
use Rattle.std.specs.List.{All, sum_by}
use Rattle.std.proofs.lemmas.Int.{ints, to_z-of_z}
use Rattle.network.specs.Problem.{duration}
use Rattle.lemma_proof.specs.Reasons.{Tells, RunsWithin, IsClique}
use Rattle.lemma_proof.proofs.Loops.{tells_false, refused}
use Rattle.lemma_proof.proofs.Weighing.{lt_test, test_lt}
use Rattle.lemma_proof.proofs.clique.is_clique.Goals as goal

pub returns-then-not-all_run_within : goal.returns-then-not-all_run_within
returns-then-not-all_run_within c = λ exact arcs m.
    let from_fits : SFits w64 c.args.from = search rules in
    let to_fits : SFits w64 c.args.to = search rules in
    let within : Tells exact c.all_run_within.result
    (All (RunsWithin c.args.project.now arcs c.args.from c.args.to) c.args.members.now) =
    simp to_z-of_z at (c.all_run_within.ensures exact arcs m) in
    refused (IsClique c.args.project.now arcs c.args.from c.args.to c.args.members.now)
    (λ sure k. tells_false within c.if-not-all_run_within.true sure k.inside)

pub returns-then-not-run_one_at_a_time : goal.returns-then-not-run_one_at_a_time
returns-then-not-run_one_at_a_time c = λ exact arcs m.
    refused (IsClique c.args.project.now arcs c.args.from c.args.to c.args.members.now)
    (λ sure k. tells_false (c.run_one_at_a_time.ensures exact arcs m) c.if-not-run_one_at_a_time.true sure k.apart)

pub returns : goal.returns
returns c = λ exact arcs m.
    let from_fits : SFits w64 c.args.from = search rules in
    let to_fits : SFits w64 c.args.to = search rules in
    let within : Tells exact c.all_run_within.result
    (All (RunsWithin c.args.project.now arcs c.args.from c.args.to) c.args.members.now) =
    simp to_z-of_z at (c.all_run_within.ensures exact arcs m) in
    let total : c.total_duration.result ≡ sum_by (λ i. unsigned_abs (duration c.args.project.now i)) c.args.members.now = c.total_duration.ensures.value in
    let wide : to_z w64 c.total_duration.result ≡ pos c.total_duration.result = omega (arith, ints) in
    let fits : SFits w64 (c.args.from +ℤ pos c.total_duration.result) =
    omega (arith, ints, c.requires.from_time.at_least, c.requires.from_time.at_most) in record {
      shown = λ yes.
          let longer : c.args.to <ℤ (c.args.from +ℤ pos c.total_duration.result) =
          lt_test c.args.to (c.args.from +ℤ pos c.total_duration.result) (simp to_z-of_z at (rw wide at yes)) in
          record {
            several = omega (arith, c.if-members-lt2.false);
            are_members = c.are_members.ensures.0 c.if-not-are_members.false;
            apart = (c.run_one_at_a_time.ensures exact arcs m).shown c.if-not-run_one_at_a_time.false;
            inside = within.shown c.if-not-all_run_within.false;
            over = rw total at longer;
          };
      only = λ sure k.
          let longer : c.args.to <ℤ (c.args.from +ℤ pos c.total_duration.result) = rw total k.over in
          rw wide (simp to_z-of_z (test_lt c.args.to (c.args.from +ℤ pos c.total_duration.result) longer));
    }
