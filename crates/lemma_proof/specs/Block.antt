-- A block: the matrix of the record's own arcs, arcs beside it, and the weights of walks from 0 and back to it.
use Rattle.std.specs.Prelude.{ℤ, ◌+ℤ◌, ◌≡◌, ◌==◌, ◌<◌, ℕ, Bool, true, false, if◌then◌else◌, List, ◌++◌, Option, None, Some, length, MatchOption}
use Rattle.std.specs.List.{Contains}
use Rattle.std.specs.Bool.{MatchBool}
use Rattle.network.specs.declared.parts.Lag.{Lag}
use Rattle.network.specs.Schedule.{start}
use Rattle.network.specs.Walk.{Rows, entry, IsMatrixOf, HasPositiveCycle, HasNoPositiveCycle}
use Rattle.longest_path.specs.Insert.{arc_of, AddsArc, ClosesCycle}
use Rattle.longest_path.specs.Saved.{Marked}
use Rattle.longest_path.specs.Matrix.{IsMatrix, IsFull, greater}
use Rattle.lemma_proof.specs.Implied.{ImpliesWith, AreReached}
use Rattle.lemma_proof.specs.Heads.{IsLight}

-- the arc in the other direction
abbrev pub converse_of : Lag → Lag
converse_of e = arc_of e.to e.from e.weight

-- the matrix of the record's own arcs, the arcs beside it, and by these the weights of walks from 0, the heads, and
-- back to it, the tails; and such weights in a trial with one arc more
pub record BlockOf : Type 0 where
  pub rows : Rows
  pub more : List Lag
  pub heads : List ℤ
  pub tails : List ℤ
  pub tried_heads : List ℤ
  pub tried_tails : List ℤ

-- each of these is at most the weight of a walk back to 0
abbrev pub AreReaching : ℕ → Rows → List Lag → List ℤ → Type 0
AreReaching n rows more s = (i : ℕ) → i < n → ImpliesWith n rows more (arc_of i 0 (start s i))

-- heads and tails by these arcs
pub record AreEnds (rows : Rows) (more : List Lag) (heads tails : List ℤ) : Type 0 where
  pub reached : AreReached (length rows) rows more heads
  pub reaching : AreReaching (length rows) rows more tails

-- a matrix in which every activity reaches every other, and heads and tails by it and the arcs beside
pub record IsBlock (x : BlockOf) : Type 0 where
  pub matrix : IsMatrix x.rows
  pub full : IsFull x.rows
  pub some : 0 < length x.rows
  pub light : (e : Lag) → Contains x.more e → IsLight (length x.rows) e
  pub ends : AreEnds x.rows x.more x.heads x.tails

-- whether the arcs close a walk of positive weight, where it is known
abbrev pub IsToldOf : ℕ → Rows → List Lag → Option Bool → Type 0
IsToldOf n rows more None = Unit {0}
IsToldOf n rows more (Some dead) =
    (own : List Lag) → IsMatrixOf n own rows → MatchBool dead (HasPositiveCycle (own ++ more)) (HasNoPositiveCycle (own ++ more))

-- whether the arcs close a walk of positive weight, by what an arc more told: a way back weighs more than 0, or heads and
-- tails meet all arcs, or it isn't known
abbrev pub told_by : Option Bool → Option Bool
told_by None = Some true
told_by (Some true) = Some false
told_by (Some false) = None

-- the weight of a walk that is easily seen: a head or a tail, or a walk over the record's own arcs, or by 0
abbrev pub seen : Rows → List ℤ → List ℤ → ℕ → ℕ → Option ℤ
seen rows heads tails a b =
    if a == 0 then Some (start heads b)
    else (if b == 0 then Some (start tails a) else greater (entry rows a b) (Some (start tails a +ℤ start heads b)))

-- ---- The matrix of all arcs.

-- that of the arcs of these rows and these more, or none where they close a walk of positive weight
abbrev pub IsMatrixWith : Rows → List Lag → Option Marked → Type 0
IsMatrixWith rows more found =
    (own : List Lag) → IsMatrixOf (length rows) own rows →
    MatchOption found (HasPositiveCycle (own ++ more)) (λ m. IsMatrixOf (length rows) (own ++ more) m.rows)

-- the arc closes a walk of positive weight, and the matrix is as it was, or it is that with the arc
abbrev pub IsInserted : Lag → Marked → Marked → Bool → Type 0
IsInserted e old new true = ClosesCycle e old.rows × (new ≡ old)
IsInserted e old new false = AddsArc e old.rows new.rows × (new.marks ≡ old.marks)
