use Rattle.std.proofs.Common.{w64, to_z, of_z, sym, ◌∙◌, refl, arith}
use Rattle.std.proofs.lemmas.Grind.{common_steps}
use Rattle.network.specs.Schedule.{is_running}
use Rattle.profile.proofs.Uses.{filter_range_yes, filter_range_no}
use Rattle.profile.proofs.usage.list_running.Goals as goal
use Rattle.profile.proofs.usage.list_running.Goals.{then-is_running, else-is_running}

pub loop-activity-preserved : goal.loop-activity-preserved
loop-activity-preserved c =
    let p = is_running c.args.project.now c.args.starts.now (to_z w64 (of_z w64 c.args.time)) in
    elim c.if-is_running.branch [
      | then-is_running w ↦
          let more = filter_range_yes p c.loop-activity.activity (sym c.is_running.ensures ∙ w.if-is_running.true) in
          record {
            so_far = rw (w.activities-is, w.push_reserved.ensures.items, c.loop-activity.invariant.so_far, more) refl;
            few = rw (w.activities-is, w.push_reserved.ensures.items) (grind (arith, common_steps));
            room = rw (w.activities-is) (w.push_reserved.ensures.capacity ∙ c.loop-activity.invariant.room);
          }
      | else-is_running w ↦
          let more = filter_range_no p c.loop-activity.activity (sym c.is_running.ensures ∙ w.if-is_running.false) in
          record {
            so_far = rw (w.activities-is, c.loop-activity.invariant.so_far, more) refl;
            few = rw w.activities-is (omega (arith, c.loop-activity.invariant.few));
            room = rw w.activities-is c.loop-activity.invariant.room;
          }
    ]
