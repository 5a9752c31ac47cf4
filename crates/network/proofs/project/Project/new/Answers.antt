use Rattle.std.proofs.Common.{sym}
use Rattle.network.specs.Problem.{problem_of}
use Rattle.network.proofs.FaultLaws.{IsProject-from_no_fault, not_project, on_err}
use Rattle.network.proofs.project.Project.new.Goals as goal

pub invariant_of-result : goal.invariant_of-result
invariant_of-result c = IsProject-from_no_fault (problem_of c.args.parts) (sym c.in_ok-check.ensures)

pub returns-clause-limits : goal.returns-clause-limits
returns-clause-limits c = IsProject-from_no_fault (problem_of c.args.parts) (sym c.in_ok-check.ensures)

pub returns-in_err-check-clause-refused : goal.returns-in_err-check-clause-refused
returns-in_err-check-clause-refused c = on_err c.from_residual.result (λ is. not_project (problem_of c.args.parts) _ (sym c.in_err-check.ensures) is)
