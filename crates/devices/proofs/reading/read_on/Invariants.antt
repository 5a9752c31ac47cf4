use Rattle.std.proofs.Common.{◌≡◌, ◌≤◌, ◌-◌, ◌++◌, List, ℕ, vec_len}
use Rattle.std.specs.Io.KnownBytes.{Consumes}
use Rattle.devices.proofs.reading.read_on.Given as goal

abbrev pub invariant-loop-buffer : goal.invariant-loop-buffer
invariant-loop-buffer g l = record {
  piece : List ℕ;
  is : l.text.items ≡ l.fn.text.items ++ piece;
  given : Consumes (g.I.Input.left l.fn.input) (g.I.Input.left l.input) piece;
  within : vec_len l.text ≤ l.most;
  count : g.I.Input.failed l.input ≡ g.I.Input.failed l.fn.input;
}

abbrev pub decreases-loop-buffer : goal.decreases-loop-buffer
decreases-loop-buffer g l = l.most - vec_len l.text
