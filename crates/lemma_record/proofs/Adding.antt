-- The exchange that adds a piece keeps the rule.
use Rattle.std.proofs.Common.{◌≡◌, ℕ, ◌+◌, ◌<◌, ◌==◌, Bool, true, false, List, [], ◌∷◌, ◌++◌, length, refl, ap, sym, subst, arith, inl, length-append, None}
use Rattle.std.proofs.lemmas.List.{append-nil}
use Rattle.std.proofs.lemmas.Bool.Decides.{nat_tests}
use mathlib.Core.List.{IsPrefix}
use prog.Atomic.{either}
use Rattle.logbook.specs.Pages.{Cell, cell, keeps, no_nib, step, Moves, Goes}
use Rattle.lemma_record.specs.History.{Piece, IsKept, Adds}
use Rattle.lemma_record.proofs.Pieces.{prefix_whole}

abbrev pub shown : List Piece → List Piece
shown log = []

abbrev pub moved : List Piece → List Piece → ℕ → Type 0
moved xs ys n = Unit {0}

pub adds_goes : (log v : List Piece) (piece : Piece) (old : ℕ) → length v ≡ old → IsPrefix v log
    → (b : Bool) → (length log == old) ≡ b
    → Goes IsKept shown moved 0 (v, (no_nib, None)) (λ n. either (n == old) (old + 1) n)
    (Adds (step 0 old (old + 1) piece) (v, (no_nib, None))) ((length log, true) ∷ (0, true) ∷ []) log
adds_goes log v piece old len pre true is =
    let here : length log ≡ old = grind (arith, nat_tests) in
    let same : v ≡ log = prefix_whole v log pre (omega arith) in
    let n : either (length log == old) (old + 1) (length log) ≡ length (log ++ piece ∷ []) = rw is (omega (arith, length-append log (piece ∷ []))) in (
      keeps,
      piece ∷ [],
      None,
      tt,
      record { words = ap (λ (k : ℕ). (k, true) ∷ (0, true) ∷ []) n },
      inl (refl, refl),
      rw is (ap (λ w. w ++ piece ∷ []) (sym same)),
    )
adds_goes log v piece old len pre false is =
    let all : log ++ [] ≡ log = append-nil log in
    let n : either (length log == old) (old + 1) (length log) ≡ length (log ++ []) = rw is (ap length (sym all)) in (
      keeps,
      [],
      None,
      tt,
      record { words = ap (λ (k : ℕ). (k, true) ∷ (0, true) ∷ []) n },
      inl (refl, refl),
      rw is (ap length all),
    )

-- whatever the history is, the exchange adds the piece to all that was seen, or finds that the history is longer
pub adds_moves : (v : List Piece) (piece : Piece) (old : ℕ) → length v ≡ old
    → Moves IsKept shown moved 0 (v, (no_nib, None)) (λ n. either (n == old) (old + 1) n) (Adds (step 0 old (old + 1) piece) (v, (no_nib, None)))
adds_moves v piece old len cs log kept pre away =
    let P : List Cell → Type 0 = λ c. (0 < length c) × ((cell c 0).1 ≡ true)
    × Goes IsKept shown moved 0 (v, (no_nib, None)) (λ n. either (n == old) (old + 1) n)
    (Adds (step 0 old (old + 1) piece) (v, (no_nib, None))) c log in
    subst P (sym kept.words) (omega arith, refl, adds_goes log v piece old len pre (length log == old) refl)
