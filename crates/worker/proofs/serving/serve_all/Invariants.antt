use Rattle.std.proofs.Common.{◌≡◌, ◌+◌, ◌≤◌}
use Rattle.worker.proofs.serving.serve_all.Given as goal

abbrev pub invariant-loop : goal.invariant-loop
invariant-loop g l = record {
  seated : l.desk.seat.ceiling ≡ l.shared.best;
  number : l.desk.number ≡ l.initial.desk.number;
  accepted : l.initial.desk.accepted ≤ l.desk.accepted;
  dismissals : l.desk.key.dismissals ≡ l.initial.desk.key.dismissals;
  tickets : l.desk.key.tickets + l.initial.desk.accepted ≡ l.initial.desk.key.tickets + l.desk.accepted;
}
