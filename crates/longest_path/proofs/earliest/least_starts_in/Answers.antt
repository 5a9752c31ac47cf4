use Rattle.std.proofs.Common.{◌≡◌, ◌∙◌, ap, arith, pos, rules, w64, length, [], Option, ℤ, SFits}
use Rattle.std.specs.Option.{unwrap_or}
use Rattle.std.proofs.lemmas.Int.{to_z-of_z}
use Rattle.network.specs.Walk.{entry, weights_from}
use Rattle.network.proofs.FaultLaws.{appended_more}
use Rattle.longest_path.proofs.Ends.{AreEarliest-weights}
use Rattle.longest_path.proofs.earliest.least_starts_in.Goals as goal

pub loop-i-preserved : goal.loop-i-preserved
loop-i-preserved c =
    let fits : SFits w64 c.unwrap_or.result = search rules in
    let h = c.in_ok-push.ensures.items in
    let u = c.unwrap_or.ensures in
    let g = c.get.ensures.value in
    appended_more (λ b. unwrap_or (entry c.args.matrix.now 0 b) (pos 0)) 0 c.loop-i.i c.loop-i.i _ []
    c.loop-i.starts.items c.push.new.self.items c.loop-i.invariant h (omega arith)
    (to_z-of_z w64 c.unwrap_or.result fits ∙ u ∙ ap (λ (o : Option ℤ). unwrap_or o (pos 0)) g)

pub returns-clause-earliest : goal.returns-clause-earliest
returns-clause-earliest c = λ p pairs m.
    let all : c.loop-i.i ≡ length c.args.matrix.now = omega (arith, c.activity_count-i-end.ensures.value, c.loop-i.auto.i-end) in
    let whole : c.loop-i.starts.items ≡ weights_from 0 c.args.matrix.now = rw all at c.loop-i.invariant in
    rw whole (AreEarliest-weights p pairs c.args.matrix.now m)
