use Rattle.std.proofs.Common.{◌≡◌, ap, ◌∙◌}
use Rattle.std.specs.Arc.{arc_value}
use Rattle.branching.specs.Subproblem.{Subproblem}
use Rattle.branching.proofs.Together.{report_found}
use Rattle.branching.proofs.expansion.report_found.Goals as goal

pub new-requires : goal.new-requires
new-requires c =
    let node : Subproblem = arc_value c.args.node.now in
    let project : arc_value c.in_ok-project.project ≡ node.project = c.in_ok-project.ensures ∙ c.project.ensures.project
    ∙ ap (λ (n : Subproblem). n.project) c.deref.ensures in
    rw (c.new-fates.ensures.items, c.new-children.ensures.items, c.of-schedule.ensures, c.in_ok-node.ensures)
    (report_found node c.args.ceiling (record
    { project = arc_value c.in_ok-project.project; starts = c.args.starts.items }) c.requires.is_node project
    c.requires.earliest.least c.requires.within)
