use Rattle.forbidden_sets.specs.Incompatible.{AreRowsOf}
use Rattle.forbidden_sets.proofs.incompatible.incompatible_activities.Given as goal

abbrev pub invariant-loop-activity : goal.invariant-loop-activity
invariant-loop-activity l = AreRowsOf l.project l.rows.items
