use Rattle.std.proofs.Common.{◌≡◌, true, false, sym}
use Rattle.std.specs.Arc.{arc_value}
use Rattle.psmax_run.proofs.RecordLaws.{replies_alone, replies_recorded}
use Rattle.psmax_run.proofs.workers.searched.Goals as goal

pub returns-clause-found : goal.returns-clause-found
returns-clause-found g c =
    let on : c.args.options.recorded ≡ true = sym (rw c.in-Some.is at c.in-Ok.ensures.recorded) in
    let trail = rw c.in-Some.is at c.in-Ok.ensures.trail in
    replies_recorded c.args.options (arc_value c.args.project) c.args.start _ c.new-2.result c.in_ok-answer.answer.exit c.in_ok-answer.answer.text.items _
    c.in_ok-answer.ensures c.in-Ok.ensures.solution.true_of c.in-Ok.ensures.solution.from_start on
    (rw trail.of_project at c.in_ok-recorded.ensures) c.new-2.ensures.exit c.new-2.ensures.text c.new-2.ensures.recorded

pub returns-in_default-clause-found : goal.returns-in_default-clause-found
returns-in_default-clause-found g c =
    let off : c.args.options.recorded ≡ false = sym (rw c.in_default.is at c.in-Ok.ensures.recorded) in
    replies_alone c.args.options (arc_value c.args.project) c.args.start _ c.new.result c.in_ok-answer.answer.exit c.in_ok-answer.answer.text.items
    c.in_ok-answer.ensures c.in-Ok.ensures.solution.true_of c.in-Ok.ensures.solution.from_start off
    c.new.ensures.exit c.new.ensures.text c.new.ensures.recorded
