use Rattle.std.proofs.Common.{rules, w64, FitsSigned}
use Rattle.std.proofs.lemmas.Int.{to_z-of_z}
use Rattle.bounds.proofs.WithLaws.{IsTrueBoundWith-low}
use Rattle.bounds.proofs.workspace.Workspace.bound_under.Goals as goal

pub returns-clause-holds : goal.returns-clause-holds
returns-clause-holds c =
    let fits : FitsSigned w64 c.bound_over.result = search rules in
    rw (to_z-of_z w64 c.bound_over.result fits)
    (IsTrueBoundWith-low c.args.project.now c.args.pair c.args.matrix.now c.bound_over.result c.requires.named
    c.requires.lives c.bound_over.ensures.value.low)
