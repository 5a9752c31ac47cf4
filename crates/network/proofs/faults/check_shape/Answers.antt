use Rattle.std.proofs.Common.{◌≡◌, sym, ◌∙◌, length, arith}
use Rattle.std.proofs.lemmas.List.{length-map}
use Rattle.std.proofs.lemmas.List.Folds.{list_all-map}
use Rattle.network.specs.Problem.{problem_of}
use Rattle.network.proofs.FaultLaws.{no_shape_fault}
use Rattle.network.proofs.faults.check_shape.Goals as goal

pub returns : goal.returns
returns c =
    let n : c.len-activities.result ≡ length c.args.parts.now.durations.items = c.len-activities.ensures ∙ c.args.parts.now.durations.ok.0 in
    let m : c.len-2.result ≡ length c.args.parts.now.capacities.items = c.len-2.ensures ∙ c.args.parts.now.capacities.ok.0 in
    let whole = c.args.parts.now.demands.ok.0 in
    no_shape_fault (problem_of c.args.parts.now)
    (rw n at c.if-activities-lt2.false)
    (length-map c.args.parts.now.demands.items _ ∙ omega (arith, whole, c.len.ensures, c.if-len-activities.false))
    (rw list_all-map (sym (rw (c.as_slice.ensures.value, m) at c.if-not-are_long.ensures)))
