use Rattle.std.proofs.Common.{arith}
use Rattle.std.proofs.lemmas.Int.{ints}
use Rattle.network.specs.Horizon.{stretch}
use Rattle.network.proofs.Squeezed.{sum_more}
use Rattle.network.proofs.horizon.horizon_of.Goals as goal

pub loop-activity-preserved : goal.loop-activity-preserved
loop-activity-preserved c =
    let more = sum_more (stretch c.args.project.now) c.loop-activity.activity in
    let value = c.stretch_of-sum.ensures.value in
    let so_far = c.loop-activity.invariant.so_far in
    let small = c.loop-activity.invariant.small in
    let most = c.stretch_of-sum.ensures.amount.at_most in
    let least = c.stretch_of-sum.ensures.amount.at_least in
    let few = c.activity_count-activity-end.ensures.limits.activity_limit in
    let count = c.activity_count-activity-end.ensures.value in
    let there = c.loop-activity-test.true in
    record { so_far = omega (arith, ints); small = omega (arith, ints) }
