use Rattle.std.proofs.Common.{◌≡◌, ℕ, ◌+◌, ◌<◌, ◌≤◌, get_or}
use Rattle.network.specs.Problem.{demand}
use Rattle.profile.proofs.counting.add_demands.Given as goal

abbrev pub invariant-loop-resource : goal.invariant-loop-resource
invariant-loop-resource l = record {
  done : (k : ℕ) → k < l.resource → get_or l.totals k 0 ≡ get_or l.fn.totals k 0 + demand l.project k l.activity;
  left : (k : ℕ) → l.resource ≤ k → get_or l.totals k 0 ≡ get_or l.fn.totals k 0;
}
