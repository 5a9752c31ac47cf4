use Rattle.std.proofs.Common.{◌≡◌}
use Rattle.std.proofs.lemmas.Result.{err_from_is_err_and}
use Rattle.devices.proofs.reading.read_both.Goals as goal

pub returns-in_err-project-clause-refused : goal.returns-in_err-project-clause-refused
returns-in_err-project-clause-refused g c =
    let p = err_from_is_err_and c.from_residual.result c.from_residual.ensures.1 in
    let same : p.0 ≡ c.in_err-project.field-0.0 = let is = p.2 in cc in
    rw (p.1, same) c.in_err-project.ensures.refused
