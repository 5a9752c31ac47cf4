use Rattle.std.proofs.Common.{◌∙◌, sym, ap, arith, rules, w64, Some}
use Rattle.std.proofs.lemmas.Int.{to_z-of_z}
use Rattle.schedule_check.proofs.Tables.{missing_at, none_missing, given_more, taken_more}
use Rattle.schedule_check.proofs.table.all_starts.Goals as goal

pub returns-in-None-clause-fault : goal.returns-in-None-clause-fault
returns-in-None-clause-fault c = λ known.
    missing_at c.args.found.now c.loop-activity.activity c.loop-activity-test.true c.loop-activity.invariant.whole
    c.in-None.is

pub loop-activity-preserved : goal.loop-activity-preserved
loop-activity-preserved c = record {
  whole = given_more c.args.found.now c.loop-activity.activity c.in-Some.start c.in-Some.is c.loop-activity.invariant.whole;
  starts = taken_more c.args.found.now c.loop-activity.activity _ c.loop-activity.starts.items _
      c.loop-activity-test.true (c.in-Some.is ∙ ap Some (sym (to_z-of_z w64 c.in-Some.start (search rules))))
      c.loop-activity.invariant.starts c.in_ok-push-in-Some.ensures.items;
}

pub returns-clause-all : goal.returns-clause-all
returns-clause-all c = none_missing c.args.found.now c.loop-activity.activity (omega arith) c.loop-activity.invariant.whole
