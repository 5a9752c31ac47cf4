use Rattle.std.proofs.Common.{List, Option, sym, subst, ap, ◌∙◌, option_map}
use Rattle.network.specs.Problem.{IsProject}
use Rattle.network.specs.Schedule.{ScheduleOf}
use Rattle.branching.specs.Fair.{ceiling_of}
use Rattle.search_log.specs.SearchLog.{Entry}
use Rattle.record_text.specs.Tree.{SearchRecord, lines_of}
use Rattle.search_record.specs.TrailTree.{ChildrenAreLater, tree_under}
use Rattle.search_record.proofs.TrailLines.{children_are_later}
use Rattle.search_record.proofs.TrailTrees.{IsOver, trail_record, record_right}
use Rattle.search_record.proofs.from_trail.of_trail.Goals as goal

pub trail_lines-requires : goal.trail_lines-requires
trail_lines-requires c =
    subst ChildrenAreLater (sym c.entries.ensures)
    (children_are_later c.args.trail.now.project (ceiling_of (option_map (λ schedule. schedule.now) c.args.best))
    c.args.trail.now.entries c.requires.whole.right)

pub new-requires : goal.new-requires
new-requires c =
    let p = c.args.trail.now.project in
    let best : Option ScheduleOf = option_map (λ schedule. schedule.now) c.args.best in
    let entries = c.args.trail.now.entries in
    let limits : IsProject p = subst IsProject (c.deref.ensures ∙ c.project.ensures) c.activity_count.ensures.limits in
    let over : IsOver p best entries = record {
      limits = limits;
      whole = c.requires.whole;
      of_project = c.requires.of_project;
      kept =
          c.in_ok-claim.ensures.schedule;
    } in
    trail_record p best entries (record { claim = c.in_ok-claim.claim; lines = c.in_ok-lines.lines.items }) over c.in_ok-claim.ensures.claim
    (c.in_ok-lines.ensures ∙ ap (λ (entries : List Entry). lines_of (tree_under entries 0)) c.entries.ensures)

pub returns-clause-right : goal.returns-clause-right
returns-clause-right c =
    let p = c.args.trail.now.project in
    let best : Option ScheduleOf = option_map (λ schedule. schedule.now) c.args.best in
    let entries = c.args.trail.now.entries in
    let limits : IsProject p = subst IsProject (c.deref.ensures ∙ c.project.ensures) c.activity_count.ensures.limits in
    let over : IsOver p best entries = record {
      limits = limits;
      whole = c.requires.whole;
      of_project = c.requires.of_project;
      kept =
          c.in_ok-claim.ensures.schedule;
    } in
    record_right p best entries c.new.result over (ap (λ (r : SearchRecord). r.claim) c.new.ensures ∙ c.in_ok-claim.ensures.claim)
    (ap (λ (r : SearchRecord). r.lines) c.new.ensures ∙ c.in_ok-lines.ensures
    ∙ ap (λ (entries : List Entry). lines_of (tree_under entries 0)) c.entries.ensures)
