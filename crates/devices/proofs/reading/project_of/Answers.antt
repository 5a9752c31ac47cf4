use Rattle.std.proofs.lemmas.Result.{err_from_is_err_and}
use Rattle.devices.proofs.TextLaws.{refused_by}
use Rattle.devices.proofs.reading.project_of.Goals as goal

pub returns-in_err-read_sch-clause-refused : goal.returns-in_err-read_sch-clause-refused
returns-in_err-read_sch-clause-refused c =
    let p = err_from_is_err_and c.from_residual.result c.from_residual.ensures.1 in
    rw p.1 (refused_by c.args.text.now c.in_err-read_sch.field-0.0 p.0 p.2 c.in_err-read_sch.ensures.only c.in_err-read_sch.ensures.fault)
