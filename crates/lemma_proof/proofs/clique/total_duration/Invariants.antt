use Rattle.std.proofs.Common.{◌≡◌, ◌≤◌, ◌*◌, take, unsigned_abs}
use Rattle.std.specs.List.{sum_by}
use Rattle.network.specs.Problem.{duration}
use Rattle.lemma_proof.proofs.clique.total_duration.Given as goal

abbrev pub invariant-loop-member : goal.invariant-loop-member
invariant-loop-member l = record {
  so_far : l.total ≡ sum_by (λ i. unsigned_abs (duration l.project i)) (take l.member-index l.members);
  small : l.total ≤ l.member-index * 1000000;
}
