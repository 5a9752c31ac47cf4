use Rattle.std.proofs.Common.{◌≡◌, ◌∙◌}
use Rattle.network.specs.Problem.{pair_arc}
use Rattle.longest_path.specs.Insert.{AddsArc, IsInsertFault}
use Rattle.branching.proofs.Forcings.{infeasible_at_once}
use Rattle.branching.proofs.Paths.{matrix_more, closes_with}
use Rattle.branching.proofs.branch.branch_with_forced.Goals as goal

pub returns-in-Err-PositiveCycle-clause-branch : goal.returns-in-Err-PositiveCycle-clause-branch
returns-in-Err-PositiveCycle-clause-branch c =
    let arc : c.pair_arc.result ≡ pair_arc c.args.node.now.project c.args.first = rw (c.deref.ensures ∙ c.project.ensures.project) at c.pair_arc.ensures.arc in
    let fault : IsInsertFault c.pair_arc.result c.args.matrix.now.rows c.in-Err-PositiveCycle.field-0 = c.in-Err-PositiveCycle.ensures.fault in
    let cycle = rw (c.in-Err-PositiveCycle.field-0-is, arc) at fault in
    rw c.new.ensures.items (infeasible_at_once c.args.node.now c.args.first
    (closes_with c.args.node.now.project c.args.node.now.pairs c.args.first c.args.matrix.now.rows
    c.requires.tied.matrix cycle.1))

pub branch_at-branch-requires-clause-matrix : goal.branch_at-branch-requires-clause-matrix
branch_at-branch-requires-clause-matrix c =
    let arc : c.pair_arc.result ≡ pair_arc c.args.node.now.project c.args.first = rw (c.deref.ensures ∙ c.project.ensures.project) at c.pair_arc.ensures.arc in
    let adds : AddsArc c.pair_arc.result c.args.matrix.now.rows c.insert_under_mark.new.self.rows = c.in-Ok.ensures.ok in
    matrix_more c.args.node.now.project c.args.node.now.pairs c.args.first c.args.matrix.now.rows
    c.insert_under_mark.new.self.rows c.requires.tied.matrix c.requires.named (rw arc at adds)
