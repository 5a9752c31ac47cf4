use Rattle.std.proofs.Common.{◌≡◌, ℕ, ◌+◌, ◌≤◌, get_or}
use Rattle.bounds.specs.Loads.{width_before}
use Rattle.bounds.proofs.slots.list_widths.Given as goal

abbrev pub invariant-loop-place : goal.invariant-loop-place
invariant-loop-place l = (q : ℕ) → q ≤ l.place → get_or l.line 0 0 + width_before l.widths q ≡ get_or l.line q 0
