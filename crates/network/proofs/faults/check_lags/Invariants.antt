use Rattle.std.proofs.Common.{◌≡◌, drop}
use Rattle.network.specs.Faults.{lag_fault}
use Rattle.network.proofs.faults.check_lags.Given as goal

abbrev pub invariant-loop-place : goal.invariant-loop-place
invariant-loop-place l = lag_fault l.activities l.place l.last (drop l.place l.lags) ≡ lag_fault l.activities 0 0 l.lags
