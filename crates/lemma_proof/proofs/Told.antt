-- What a found arc tells of the arcs of a matrix, and of those of a block.
use Rattle.std.proofs.Common.{◌≡◌, refl, ℕ, Bool, true, false, List, ◌++◌, length, Option, None, Some, IfSome, MatchOption}
use Rattle.network.specs.declared.parts.Lag.{Lag}
use Rattle.network.specs.Walk.{Rows, IsMatrixOf, HasNoPositiveCycle}
use Rattle.lemma_proof.specs.Block.{BlockOf, IsBlock}
use Rattle.lemma_proof.specs.Reasons.{Entries, entries_of_block, entries_of_matrix}
use Rattle.lemma_proof.proofs.KnownBlocks.{known_block}
use Rattle.lemma_proof.proofs.KnownWalks.{known_matrix}
use Rattle.lemma_proof.specs.Telling.{TellsArc}

by_exact : (exact : Bool) (found : Option Lag) (P : Lag → Type 0) → exact ≡ true
    → MatchOption found (exact ≡ true → (e : Lag) → ¬ P e) P → MatchOption found ((e : Lag) → ¬ P e) P
by_exact exact None P sure told = told sure
by_exact exact (Some e) P sure told = told

pub told_exact : (n : ℕ) (rows : Rows) (x : Entries) (found : Option Lag) (P : List Lag → Lag → Type 0)
    → x ≡ entries_of_matrix rows → TellsArc n x found P → (arcs : List Lag) → IsMatrixOf n arcs rows
    → MatchOption found ((e : Lag) → ¬ P arcs e) (P arcs)
told_exact n rows x found P same tells arcs m = by_exact true found (P arcs) refl (tells true arcs (rw same (known_matrix n arcs rows m)))

by_seen : (found : Option Lag) (never : Type 0) (P : Lag → Type 0) → MatchOption found never P → IfSome found P
by_seen None never P told = record {}
by_seen (Some e) never P told = told

pub told_seen : (n : ℕ) (x : BlockOf) (y : Entries) (found : Option Lag) (P : List Lag → Lag → Type 0)
    → length x.rows ≡ n → IsBlock x → y ≡ entries_of_block None x → TellsArc n y found P → (own : List Lag)
    → IsMatrixOf n own x.rows → HasNoPositiveCycle (own ++ x.more) → IfSome found (P (own ++ x.more))
told_seen n x y found P long is same tells own m live =
    by_seen found (false ≡ true → (e : Lag) → ¬ P (own ++ x.more) e) (P (own ++ x.more))
    (tells false (own ++ x.more) (rw same (known_block n x own long is m live)))
