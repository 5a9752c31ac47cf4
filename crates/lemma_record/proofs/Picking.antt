-- Lines are picked place after place.
use Rattle.std.proofs.Common.{◌≡◌, ◌<◌, ◌+◌, ℕ, get_or, length, take, List, [], ◌∷◌, ◌++◌, slice_get, sym, ap, ◌∙◌, append_assoc}
use Rattle.std.specs.Option.{option_to_list}
use Rattle.std.proofs.lemmas.List.{append-nil, take_more}
use Rattle.lemma_proof.specs.declared.line.Line.{Line}
use Rattle.lemma_proof.specs.Lines.{picked}

picked_push : (lines : List Line) (places : List ℕ) (place : ℕ)
    → picked lines (places ++ place ∷ []) ≡ picked lines places ++ option_to_list (slice_get lines place)
picked_push lines [] place = append-nil (option_to_list (slice_get lines place))
picked_push lines (other ∷ places) place =
    ap (λ (more : List Line). option_to_list (slice_get lines other) ++ more) (picked_push lines places place)
    ∙ sym (append_assoc (option_to_list (slice_get lines other)) (picked lines places) (option_to_list (slice_get lines place)))

pub picked_next : (lines : List Line) (places : List ℕ) (i d : ℕ) → i < length places
    → picked lines (take (i + 1) places) ≡ picked lines (take i places) ++ option_to_list
    (slice_get lines (get_or places i d))
picked_next lines places i d lt = rw (take_more places i d lt) (picked_push lines (take i places) (get_or places i d))
