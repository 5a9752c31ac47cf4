-- Weights from 0 and back to it that rise by arcs.
use Rattle.std.specs.Prelude.{ℤ, pos, ◌+ℤ◌, ◌≤ℤ◌, ◌<ℤ◌, ◌≡◌, ◌<◌, ◌⊎◌, ℕ, Bool, true, false, List, ◌∷◌, [], Option, None, Some, length}
use Rattle.std.specs.Int.{int_max}
use Rattle.std.specs.Bool.{MatchBool}
use Rattle.std.specs.List.{Contains}
use Rattle.network.specs.declared.parts.Lag.{Lag}
use Rattle.network.specs.Schedule.{start, Meets}
use Rattle.network.specs.Walk.{Rows, entry}
use Rattle.lemma_proof.specs.Implied.{MeetsRows, AreReached}

-- weights from 0, and weights back to it: no way on by an entry of the matrix makes one greater, and no way there and
-- back weighs more than 0
pub record AreThereAndBack (rows : Rows) (there back : List ℤ) : Type 0 where
  pub long : length there ≡ length rows
  pub back_long : length back ≡ length rows
  pub met : MeetsRows rows there
  pub back_met : (a b : ℕ) (w : ℤ) → entry rows a b ≡ Some w → (w +ℤ start back b) ≤ℤ start back a
  pub low : pos 0 ≤ℤ start there 0
  pub back_low : pos 0 ≤ℤ start back 0
  pub closed : (i : ℕ) → i < length rows → (start there i +ℤ start back i) ≤ℤ pos 0

-- each weight is the old one, or the way to an activity and on by its row
pub record IsRaised (rows : Rows) (to : ℕ) (way : ℤ) (old new : List ℤ) : Type 0 where
  pub long : length new ≡ length old
  pub raised : (k : ℕ) (y : ℤ) → entry rows to k ≡ Some y → start new k ≡ int_max (start old k) (way +ℤ y)

-- each of these arcs is among the others
abbrev pub AreAmong : List Lag → List Lag → Type 0
AreAmong arcs all = (e : Lag) → Contains arcs e → Contains all e

-- the weights have risen by ways over these arcs
pub record HaveRisen (rows : Rows) (arcs : List Lag) (back old new : List ℤ) : Type 0 where
  pub both : AreThereAndBack rows new back
  pub grown : (i : ℕ) → i < length rows → start old i ≤ℤ start new i
  pub reached : (all : List Lag) → AreAmong arcs all →
      AreReached (length rows) rows all old → AreReached (length rows) rows all new

-- the way over one of these arcs and back to 0 weighs more than 0
pub record IsLate (arcs : List Lag) (there back : List ℤ) : Type 0 where
  pub arc : Lag
  pub among : Contains arcs arc
  pub above : pos 0 <ℤ ((start there arc.from +ℤ arc.weight) +ℤ start back arc.to)

-- the weights meet each of these arcs
abbrev pub MeetEach : List Lag → List ℤ → Type 0
MeetEach arcs s = (e : Lag) → Contains arcs e → Meets s e

-- whether one arc raised the weights; none where the way over it and back weighs more than 0
abbrev pub IsRaisedBy : Lag → List ℤ → List ℤ → List ℤ → Option Bool → Type 0
IsRaisedBy e back old new None = IsLate (e ∷ []) new back
IsRaisedBy e back old new (Some true) = (start old e.from +ℤ e.weight) ≤ℤ start new e.to
IsRaisedBy e back old new (Some false) = (new ≡ old) × Meets new e

-- whether arcs raised the weights in a pass, else these meet them all; none where a way over one and back weighs more
-- than 0
abbrev pub IsPassed : List Lag → List ℤ → List ℤ → Option Bool → Type 0
IsPassed arcs back new None = IsLate arcs new back
IsPassed arcs back new (Some true) = Unit {0}
IsPassed arcs back new (Some false) = MeetEach arcs new

-- whether the weights meet all arcs; none where a way over one and back weighs more than 0
abbrev pub MeetsAllArcs : List Lag → List ℤ → List ℤ → Option Bool → Type 0
MeetsAllArcs arcs back new None = IsLate arcs new back
MeetsAllArcs arcs back new (Some true) = MeetEach arcs new
MeetsAllArcs arcs back new (Some false) = Unit {0}

-- the same where the weights met all arcs but the newest one, which they meet now
abbrev pub IsRisenBy : Lag → List Lag → List ℤ → List ℤ → List ℤ → Option Bool → Type 0
IsRisenBy e arcs back old new None = IsLate (e ∷ arcs) new back
IsRisenBy e arcs back old new (Some settled) =
    ((start old e.from +ℤ e.weight) ≤ℤ start new e.to)
    × MatchBool settled (((f : Lag) → Contains arcs f → Meets old f ⊎ (e ≡ f)) → MeetEach arcs new) (Unit {0})
