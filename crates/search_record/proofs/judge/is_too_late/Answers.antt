use Rattle.std.proofs.Common.{◌≡◌, sym, ◌∙◌, rules, ◌+ℤ◌, None, Some, w64, SFits}
use Rattle.std.proofs.lemmas.Int.{to_z-of_z}
use Rattle.network.specs.Problem.{duration}
use Rattle.network.specs.Walk.{entry}
use Rattle.branching.specs.Right.{IsTooLateFor}
use Rattle.branching.proofs.Nodes.{ends_of, sum_fits}
use Rattle.search_record.proofs.Decides.{refused, too_late, not_late}
use Rattle.search_record.proofs.judge.is_too_late.Goals as goal

pub returns-in-Some : goal.returns-in-Some
returns-in-Some c pairs m =
    let ends = ends_of c.args.project.now c.args.pair c.requires.named in
    let weight_fits : SFits w64 c.in-Some.weight = search rules in
    let long_fits : SFits w64 c.duration.result = search rules in
    let fits : SFits w64 (c.in-Some.weight +ℤ c.duration.result) =
    sum_fits c.in-Some.weight c.duration.result c.in-Some.ensures.fits c.duration.ensures.amount in
    let long : c.duration.result ≡ duration c.args.project.now c.args.pair.after = c.duration.ensures.value in
    let read : entry c.args.matrix.now c.args.pair.before c.args.pair.after ≡ Some c.in-Some.weight = sym c.get.ensures.value ∙ c.in-Some.is in
    simp to_z-of_z (rw long (too_late c.args.project.now pairs c.args.pair c.args.matrix.now c.in-Some.weight m ends.0 ends.1 read))

pub returns-in-None : goal.returns-in-None
returns-in-None c pairs m =
    let ends = ends_of c.args.project.now c.args.pair c.requires.named in
    let read : entry c.args.matrix.now c.args.pair.before c.args.pair.after ≡ None = sym c.get.ensures.value ∙ c.in-None.is in
    refused (IsTooLateFor c.args.project.now pairs c.args.pair) (not_late c.args.project.now pairs c.args.pair c.args.matrix.now m ends.0 ends.1 read)
