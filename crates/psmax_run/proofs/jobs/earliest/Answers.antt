use Rattle.std.proofs.Common.{append-nil, rules, refl, inr, SFits, w64}
use Rattle.std.proofs.lemmas.Int.{to_z-of_z}
use Rattle.psmax_run.proofs.JobLaws.{least_said}
use Rattle.psmax_run.proofs.jobs.earliest.Goals as goal
use Rattle.psmax_run.proofs.jobs.earliest.Goals.{in-Ok+in_ok-starts-in-Ok+in_ok-text-in-Ok, in-Err-PositiveCycle+in_ok-text-in-Err-PositiveCycle}

pub returns : goal.returns
returns c = rw (c.of.ensures.text, c.of.ensures.status) (elim c.match-longest.branch [
  | in-Ok+in_ok-starts-in-Ok+in_ok-text-in-Ok w ↦
      let fits : SFits w64 w.index-makespan.result.now = search rules in
      least_said c.args.project.now w.in-Ok.matrix w.in_ok-starts-in-Ok.starts.items w.activity_count.result
      w.index-makespan.result.now w.index-makespan.result.now _
      w.activity_count.ensures.limits w.in-Ok.ensures.matrix w.in_ok-starts-in-Ok.ensures.earliest w.activity_count.ensures.value w.index-makespan.ensures
      (rw w.text-is (rw (to_z-of_z w64 w.index-makespan.result.now fits, w.deref.ensures.value) at w.in_ok-text-in-Ok.ensures))
  | in-Err-PositiveCycle+in_ok-text-in-Err-PositiveCycle w ↦ inr (record {
    top = w.in-Err-PositiveCycle.at;
    least_top = rw (w.in-Err-PositiveCycle.field-0-is, append-nil) at w.in-Err-PositiveCycle.ensures.fault;
    text = rw w.text-is w.in_ok-text-in-Err-PositiveCycle.ensures;
    status = refl;
  })
])
