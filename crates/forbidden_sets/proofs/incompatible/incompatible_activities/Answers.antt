use Rattle.std.proofs.Common.{◌<◌}
use Rattle.std.proofs.lemmas.List.Elements.{All-push}
use Rattle.network.specs.Problem.{activity_count}
use Rattle.forbidden_sets.specs.Incompatible.{IsRowOf}
use Rattle.forbidden_sets.proofs.incompatible.incompatible_activities.Goals as goal
use Rattle.forbidden_sets.proofs.incompatible.incompatible_activities.Goals.{then-not-is_empty+in_ok-push, else-not-is_empty}

pub loop-activity-preserved : goal.loop-activity-preserved
loop-activity-preserved c =
    let named : c.loop-activity.activity < activity_count c.args.project.now = rw c.activity_count-activity-end.ensures.value at c.loop-activity-test.true in
    elim c.if-not-is_empty.branch [
      | then-not-is_empty+in_ok-push w ↦ rw (w.rows-is, w.in_ok-push.ensures.items)
          (All-push (IsRowOf c.args.project.now) _ _ c.loop-activity.invariant
          (record { named = named; incompatible = c.in_ok-others.ensures.rivals }))
      | else-not-is_empty w ↦ rw w.rows-is c.loop-activity.invariant
    ]
