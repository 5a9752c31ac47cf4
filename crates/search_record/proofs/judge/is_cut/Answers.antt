use Rattle.std.proofs.Common.{rules, w64, SFits}
use Rattle.std.proofs.lemmas.Int.{to_z-of_z}
use Rattle.search_record.proofs.Decides.{cut_by}
use Rattle.search_record.proofs.judge.is_cut.Goals as goal

pub returns : goal.returns
returns c pairs m =
    let limit_fits : SFits w64 c.args.limit = search rules in
    let bound_fits : SFits w64 c.in_ok-bound.bound = search rules in
    simp to_z-of_z (cut_by c.args.project.now pairs c.args.matrix.now c.args.limit c.in_ok-bound.bound m c.in_ok-bound.ensures.value)
