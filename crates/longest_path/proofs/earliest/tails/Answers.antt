use Rattle.std.proofs.Common.{◌≡◌, ◌-◌, refl, ◌∙◌, ap, arith, pos, rules, w64, length, [], Option, ℤ, ◌-ℤ◌, to_z, of_z, SFits}
use Rattle.std.specs.Option.{unwrap_or}
use Rattle.std.proofs.lemmas.Int.{ints, to_z-of_z}
use Rattle.network.specs.declared.limits.TheConstants.{MAX_WALK_WEIGHT}
use Rattle.network.specs.Problem.{end_of}
use Rattle.network.specs.Walk.{entry}
use Rattle.network.proofs.FaultLaws.{appended_more}
use Rattle.longest_path.specs.Ends.{tail_weight, tail_weights}
use Rattle.longest_path.proofs.Ends.{AreTails-weights, difference_fits}
use Rattle.longest_path.proofs.earliest.tails.Goals as goal

pub loop-i-preserved : goal.loop-i-preserved
loop-i-preserved c =
    let to_fits : SFits w64 c.unwrap_or-to_end.result = search rules in
    let duration_fits : SFits w64 c.duration.result = search rules in
    let weight_is : c.unwrap_or-to_end.result ≡ unwrap_or (entry c.args.matrix.now c.loop-i.i (end_of c.args.project.now)) (pos 0) =
    c.unwrap_or-to_end.ensures ∙ ap (λ (o : Option ℤ). unwrap_or o (pos 0))
    (c.get.ensures.value ∙ ap (λ n. entry c.args.matrix.now c.loop-i.i (n - 1)) c.activity_count-end.ensures.value)
    in
    let fits : SFits w64 (c.unwrap_or-to_end.result -ℤ c.duration.result) =
    rw c.unwrap_or-to_end.ensures (difference_fits MAX_WALK_WEIGHT c.get.result c.duration.result
    (omega (arith, ints)) c.get.ensures.fits c.duration.ensures.amount) in
    let is : c.unwrap_or-to_end.result -ℤ c.duration.result ≡ tail_weight c.args.project.now c.args.matrix.now
    c.loop-i.i = rw (weight_is, c.duration.ensures.value) refl in
    let stored : to_z w64 (of_z w64 (to_z w64 (of_z w64 c.unwrap_or-to_end.result) -ℤ to_z w64
    (of_z w64 c.duration.result))) ≡ tail_weight c.args.project.now c.args.matrix.now c.loop-i.i = simp to_z-of_z is
    in
    appended_more (tail_weight c.args.project.now c.args.matrix.now) 0 c.loop-i.i c.loop-i.i _ [] c.loop-i.tails.items
    c.push.new.self.items c.loop-i.invariant c.in_ok-push.ensures.items (omega arith) stored

pub returns-clause-tails : goal.returns-clause-tails
returns-clause-tails c = λ pairs m.
    let all : c.loop-i.i ≡ length c.args.project.now.durations = omega (arith, c.activity_count-i-end.ensures.value, c.loop-i.auto.i-end) in
    let whole : c.loop-i.tails.items ≡ tail_weights c.args.project.now c.args.matrix.now = rw all at c.loop-i.invariant in
    rw whole (AreTails-weights c.args.project.now pairs c.args.matrix.now m)
