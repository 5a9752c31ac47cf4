use Rattle.network.proofs.FaultLaws.{row_count}
use Rattle.network.proofs.project.Project.demands.Goals as goal

pub returns-clause-count : goal.returns-clause-count
returns-clause-count c = rw c.as_slice.ensures.value
    (row_count c.self.inside.parts c.args.self.now c.args.activity c.index.result.now c.self.view_is c.self.invariant
    c.requires c.index.ensures)
