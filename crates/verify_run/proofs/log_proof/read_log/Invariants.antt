use Rattle.std.proofs.Common.{◌≡◌, ◌++◌, [], List, ℕ}
use Rattle.network.specs.Problem.{Problem}
use Rattle.std.specs.Io.KnownBytes.{Consumes}
use Rattle.lemma_record.specs.Reached.{HasChecked}
use Rattle.verify_run.specs.Verified.{part_in}
use Rattle.verify_run.proofs.log_proof.read_log.Given as goal

abbrev pub invariant-loop : goal.invariant-loop
invariant-loop g l = record {
  front : List ℕ;
  given : Consumes (g.I.Input.left l.fn.input) (g.I.Input.left l.input) front;
  read : (p : Problem) → HasChecked p [] l.fn.checker → HasChecked p (l.head ++ front) l.checker;
  part : l.checker.part ≡ part_in l.scope;
  count : g.I.Input.failed l.input ≡ g.I.Input.failed l.fn.input;
}
