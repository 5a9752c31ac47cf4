use Rattle.std.proofs.Common.{rules, w64, FitsSigned}
use Rattle.std.proofs.lemmas.Int.{to_z-of_z}
use Rattle.bounds.proofs.workspace.bound_with.Goals as goal

pub returns-clause-value : goal.returns-clause-value
returns-clause-value c =
    let fits : FitsSigned w64 c.bound_under.result = search rules in
    rw (to_z-of_z w64 c.bound_under.result fits) (c.bound_under.ensures.value.exact tt)

pub returns-clause-holds : goal.returns-clause-holds
returns-clause-holds c =
    let fits : FitsSigned w64 c.bound_under.result = search rules in
    rw (to_z-of_z w64 c.bound_under.result fits) c.bound_under.ensures.holds
