use Rattle.std.proofs.Common.{◌≡◌, take}
use Rattle.lemma_proof.specs.Lines.{picked}
use Rattle.lemma_record.proofs.copies.picked.Given as goal

abbrev pub invariant-loop-place : goal.invariant-loop-place
invariant-loop-place l = l.copies.items ≡ picked l.lines (take l.place-index l.places)
