-- The two halves of a block: walks from 0, and walks back to it.
use Rattle.std.specs.Prelude.{pos, ◌+ℤ◌, ◌≤ℤ◌, ◌<ℤ◌, ◌≡◌, ◌<◌, ◌⊎◌, ℕ, Bool, true, List, [], ◌∷◌, Option, None, Some, map, length}
use Rattle.std.specs.List.{Contains}
use Rattle.std.specs.Bool.{MatchBool}
use Rattle.network.specs.declared.parts.Lag.{Lag}
use Rattle.network.specs.Schedule.{start, Meets}
use Rattle.network.specs.Walk.{Rows, entry}
use Rattle.longest_path.specs.Insert.{rows_over}
use Rattle.lemma_proof.specs.Implied.{AreReached}
use Rattle.lemma_proof.specs.Heads.{HeadsOf, IsLight}
use Rattle.lemma_proof.specs.Rising.{AreAmong, AreThereAndBack, MeetEach}
use Rattle.lemma_proof.specs.Block.{BlockOf, converse_of}

-- rows and columns
pub record AreConverse (rows columns : Rows) : Type 0 where
  pub long : length columns ≡ length rows
  pub entries : (a b : ℕ) → a < length rows → b < length rows → entry columns b a ≡ entry rows a b

-- the arcs in the other direction
abbrev pub converses : List Lag → List Lag
converses arcs = map converse_of arcs

-- the arc doesn't touch 0, or it does and heads or tails are as great as its weight
abbrev pub IsCovered : HeadsOf → HeadsOf → Lag → Type 0
IsCovered x y e =
    Contains x.arcs e ⊎ (((e.from ≡ 0) × (e.weight ≤ℤ start x.heads e.to)) ⊎ ((e.to ≡ 0) × (e.weight ≤ℤ start y.heads e.from)))

-- heads and tails meet all arcs
pub record AreMet (more : List Lag) (x y : HeadsOf) : Type 0 where
  pub between : MeetEach x.arcs x.heads
  pub covered : (e : Lag) → Contains more e → IsCovered x y e

-- one half has the rows, the other the columns; heads and tails are weights of walks over the rows and the arcs beside
-- them, and meet all arcs where they are settled
pub record AreHalves (more : List Lag) (x y : HeadsOf) (settled : Bool) : Type 0 where
  pub converse : AreConverse x.rows y.rows
  pub light : (e : Lag) → Contains more e → IsLight (length x.rows) e
  pub part : AreAmong x.arcs more
  pub back_part : AreAmong y.arcs (converses more)
  pub both : AreThereAndBack x.rows x.heads y.heads
  pub tried : AreThereAndBack x.rows x.tried y.tried
  pub reached : AreReached (length x.rows) x.rows more x.heads
  pub reaching : AreReached (length y.rows) y.rows (converses more) y.heads
  pub met : MatchBool settled (AreMet more x y) (Unit {0})

abbrev pub block_of : List Lag → HeadsOf → HeadsOf → BlockOf
block_of more x y = record { rows = x.rows; more = more; heads = x.heads; tails = y.heads; tried_heads = x.tried; tried_tails = y.tried }

-- ---- An arc more.

-- the half may list the arc now
pub record MayList (e : Lag) (old new : HeadsOf) : Type 0 where
  pub same : new ≡ record old { arcs = new.arcs }
  pub kept : AreAmong old.arcs new.arcs
  pub only : (f : Lag) → Contains new.arcs f → Contains old.arcs f ⊎ (e ≡ f)

-- the arc is listed, or touches 0
abbrev pub IsListed : Lag → List Lag → Type 0
IsListed e arcs = Contains arcs e ⊎ ((e.from ≡ 0) ⊎ (e.to ≡ 0))

-- heads and tails have risen by the arc and the listed ones
pub record HaveBothRisen (e : Lag) (x y x' y' : HeadsOf) : Type 0 where
  pub heads : x' ≡ record x { heads = x'.heads }
  pub tails : y' ≡ record y { heads = y'.heads }
  pub both : AreThereAndBack x.rows x'.heads y'.heads
  pub reached : (all : List Lag) → AreAmong (e ∷ x.arcs) all →
      AreReached (length x.rows) x.rows all x.heads → AreReached (length x.rows) x.rows all x'.heads
  pub reaching : (all : List Lag) → AreAmong (converse_of e ∷ y.arcs) all →
      AreReached (length y.rows) y.rows all y.heads → AreReached (length y.rows) y.rows all y'.heads

-- the way from 0 over the arc or a listed one and back weighs more than 0
pub record AreLate (e : Lag) (x y x' y' : HeadsOf) : Type 0 where
  pub arc : Lag
  pub among : Contains (e ∷ x.arcs) arc ⊎ Contains (converse_of e ∷ y.arcs) (converse_of arc)
  pub above : pos 0 <ℤ ((start x'.heads arc.from +ℤ arc.weight) +ℤ start y'.heads arc.to)

-- the arc is met now, and no weight is less than it was; and the listed arcs are met, if they were before
pub record AreRaised (e : Lag) (x y x' y' : HeadsOf) (settled : Bool) : Type 0 where
  pub over : (start x.heads e.from +ℤ e.weight) ≤ℤ start x'.heads e.to
  pub back_over : (start y.heads e.to +ℤ e.weight) ≤ℤ start y'.heads e.from
  pub grown : (i : ℕ) → i < length x.rows → start x.heads i ≤ℤ start x'.heads i
  pub back_grown : (i : ℕ) → i < length x.rows → start y.heads i ≤ℤ start y'.heads i
  pub met : MatchBool settled (((f : Lag) → Contains x.arcs f → Meets x.heads f ⊎ (e ≡ f)) → MeetEach x.arcs x'.heads) (Unit {0})

abbrev pub AreToldBoth : Lag → HeadsOf → HeadsOf → HeadsOf → HeadsOf → Option Bool → Type 0
AreToldBoth e x y x' y' None = AreLate e x y x' y'
AreToldBoth e x y x' y' (Some settled) = AreRaised e x y x' y' settled

-- those of the trial are heads and tails, which have risen by the arc and the listed ones
pub record AreTried (e : Lag) (x y x' y' : HeadsOf) : Type 0 where
  pub heads : x' ≡ record x { tried = x'.tried }
  pub tails : y' ≡ record y { tried = y'.tried }
  pub both : AreThereAndBack x.rows x'.tried y'.tried
  pub reached : (all : List Lag) → AreAmong (e ∷ x.arcs) all →
      AreReached (length x.rows) x.rows all x.heads → AreReached (length x.rows) x.rows all x'.tried
  pub reaching : (all : List Lag) → AreAmong (converse_of e ∷ y.arcs) all →
      AreReached (length y.rows) y.rows all y.heads → AreReached (length y.rows) y.rows all y'.tried

-- the matrix has the arc, no arc is beside it, and heads and tails are those of the matrix
pub record AreRooted (e : Lag) (x x' y' : HeadsOf) : Type 0 where
  pub rows : x'.rows ≡ rows_over e x.rows
  pub halves : AreHalves [] x' y' true
