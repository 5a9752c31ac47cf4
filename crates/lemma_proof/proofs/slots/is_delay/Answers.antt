use Rattle.std.proofs.Common.{rules, arith, ◌-ℤ◌, pos, w64, SFits}
use Rattle.std.proofs.lemmas.Int.{ints, to_z-of_z}
use Rattle.lemma_proof.proofs.Listed.{delay_tested}
use Rattle.lemma_proof.proofs.slots.is_delay.Goals as goal

pub returns : goal.returns
returns c =
    let weight_fits : SFits w64 c.args.arc.weight = search rules in
    let delay_fits : SFits w64 c.args.delay = search rules in
    let fits : SFits w64 (pos 1 -ℤ c.args.delay) = omega (arith, ints, c.requires.at_least, c.requires.at_most) in
    simp to_z-of_z (delay_tested c.args.arc.weight c.args.delay)
