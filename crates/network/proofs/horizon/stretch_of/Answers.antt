use Rattle.std.proofs.Common.{◌≡◌, arith, get_or, pos, to_z, w64, length, ◌≤◌}
use Rattle.std.specs.Int.{int_max}
use Rattle.std.proofs.lemmas.Int.{ints, clamps}
use Rattle.std.proofs.lemmas.List.{get_or_default}
use Rattle.network.specs.declared.parts.Lag.{Lag}
use Rattle.network.proofs.Stretches.{more_left, more_kept, left_amount, stretch_read}
use Rattle.network.proofs.horizon.stretch_of.Goals as goal
use Rattle.network.proofs.horizon.stretch_of.Goals.{then-lag-activity, else-lag-activity}

abbrev nothing : Lag
nothing = record { from = 0; to = 0; weight = pos 0 }

pub loop-lag-preserved : goal.loop-lag-preserved
loop-lag-preserved c =
    let p = c.args.project.now in
    let i = c.args.activity in
    let k = c.loop-lag.lag-index in
    let items = c.lags-lag-items.result.now in
    let e : Lag = get_or c.lags-lag-items.result.now c.loop-lag.lag-index nothing in
    let is = c.lags-lag-items.ensures.limits in
    let at : e ≡ get_or c.lags-lag-items.result.now c.loop-lag.lag-index e = get_or_default items k nothing e c.loop-lag-test.true in
    elim c.if-lag-activity.branch [
      | then-lag-activity w ↦
          let step : to_z w64 c.if-lag-activity.longest-bits ≡ int_max (to_z w64 c.loop-lag.longest-bits)
          (get_or c.lags-lag-items.result.now c.loop-lag.lag-index nothing).weight =
          omega (arith, ints, clamps, w.max-longest.ensures.value, w.longest-is) in
          record {
            so_far = more_left p i k items e _ _ c.lags-lag-items.ensures.value c.loop-lag-test.true at w.if-lag-activity.true step c.loop-lag.invariant.so_far;
            amount = left_amount p k items nothing _ _ is c.lags-lag-items.ensures.value c.loop-lag-test.true step c.loop-lag.invariant.amount;
          }
      | else-lag-activity w ↦
          let same : to_z w64 c.if-lag-activity.longest-bits ≡ to_z w64 c.loop-lag.longest-bits = w.longest-is in
          record {
            so_far = more_kept p i k items e _ _ c.lags-lag-items.ensures.value c.loop-lag-test.true at
                w.if-lag-activity.false same c.loop-lag.invariant.so_far;
            amount = rw same c.loop-lag.invariant.amount;
          }
    ]

pub returns-clause-value : goal.returns-clause-value
returns-clause-value c =
    let past : length c.args.project.now.lags ≤ c.loop-lag.lag-index = rw c.lags-lag-items.ensures.value at c.loop-lag-test.false in
    stretch_read c.args.project.now c.args.activity c.loop-lag.lag-index _ c.loop-lag.invariant.amount c.loop-lag.invariant.so_far past
