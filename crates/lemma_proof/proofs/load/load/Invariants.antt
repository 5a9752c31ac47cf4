use Rattle.std.proofs.Common.{◌≡◌, ◌≤◌, ◌*◌}
use Rattle.std.specs.List.{range_with_len}
use Rattle.lemma_proof.specs.Reasons.{load_of}
use Rattle.lemma_proof.proofs.load.load.Given as goal

abbrev pub invariant-loop-activity : goal.invariant-loop-activity
invariant-loop-activity l = record {
  so_far : l.total ≡ load_of l.project l.weights.rows l.resource l.from l.to (range_with_len 0 l.activity);
  small : l.total ≤ l.activity * 1000000000000;
}
