use Rattle.std.proofs.Common.{ℕ}
use Rattle.std.specs.List.{All}
use Rattle.std.specs.Map.Iter.{deref}
use Rattle.lemma_proof.specs.Slots.{SaysAt}
use Rattle.lemma_proof.proofs.slots.LemmaSlots.slot_of_delays.Given as goal

abbrev pub invariant-loop-place : goal.invariant-loop-place
invariant-loop-place l = All (λ x. ¬ SaysAt l.self l.one l.other (deref {X = (ℕ × ℕ) × ℕ} x).1) l.yielded
