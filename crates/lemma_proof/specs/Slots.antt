-- Lemmas in slots, and the delays that they say.
use Rattle.std.specs.Prelude.{◌≡◌, ◌≢◌, ◌≤◌, ◌+◌, ◌-◌, ◌⊎◌, ◌++◌, ◌&&◌, ◌==◌, ℕ, ℤ, pos, ◌+ℤ◌, ◌-ℤ◌, ◌≤ℤ◌, Bool, true, false, List, [], ◌∷◌, length}
use Rattle.std.specs.Prelude.{Option, None, Some, if◌then◌else◌, min, max, replicate, slice_get, slice_set}
use Rattle.std.specs.declared.cmp.Ordering.{Ordering}
use Rattle.std.specs.Ordering.{nat_cmp, ordering_then}
use Rattle.std.specs.BTreeSet.{BTreeSet, contains}
use Rattle.network.specs.declared.parts.Lag.{Lag}
use Rattle.network.specs.Problem.{IsWithin}
use Rattle.lemma_proof.specs.declared.line.Interval.{Interval}
use Rattle.lemma_proof.specs.declared.line.TheConstants.{MAX_LENGTH}
use Rattle.lemma_proof.specs.declared.weights.TheConstants.{MAX_ARC_WEIGHT}

-- lemmas by the slots that they are in; none where a slot is empty
abbrev pub Slots : Type 0
Slots = List (Option (List Lag))

-- the lemma is in the slot
abbrev pub IsIn : Slots → ℕ → List Lag → Type 0
IsIn lemmas slot lemma = slice_get lemmas slot ≡ Some (Some lemma)

-- there is a lemma in the slot
abbrev pub IsFilled : Slots → ℕ → Type 0
IsFilled lemmas slot = (lemma : List Lag) × IsIn lemmas slot lemma

-- empty slots more, so that there is this one
abbrev pub with_slot : Slots → ℕ → Slots
with_slot lemmas slot = lemmas ++ replicate (slot + 1 - length lemmas) None

-- the lemma of a slot goes if there is one
abbrev pub LetsGo : Slots → ℕ → Bool → Slots → Type 0
LetsGo old slot true new = IsFilled old slot × (new ≡ slice_set old slot None)
LetsGo old slot false new = (¬ IsFilled old slot) × (new ≡ old)

-- ---- delays

-- an interval within the limits
pub record IsSmall (m : Interval) : Type 0 where
  pub at : IsWithin MAX_ARC_WEIGHT m.at
  pub size : m.length ≤ MAX_LENGTH

-- how long after the activity of the first interval that of the second starts at least, where the second interval
-- begins once the first has ended
abbrev pub delay : Interval → Interval → ℤ
delay m k = (m.at +ℤ pos m.length) -ℤ k.at

-- an arc from the activity of the first interval to that of the second, and one back. A schedule that doesn't meet both
-- has the second interval begin once the first has ended, or the other way round
pub record AreDelays (m k : Interval) (there back : Lag) : Type 0 where
  pub there_from : there.from ≡ m.activity
  pub there_to : there.to ≡ k.activity
  pub back_from : back.from ≡ k.activity
  pub back_to : back.to ≡ m.activity
  pub first : delay m k ≤ℤ (pos 1 -ℤ back.weight)
  pub second : delay k m ≤ℤ (pos 1 -ℤ there.weight)

-- the lemma has such arcs, in either order, and no other
abbrev pub SaysDelays : Interval → Interval → List Lag → Type 0
SaysDelays m k [] = ⊥
SaysDelays m k (a ∷ []) = ⊥
SaysDelays m k (a ∷ b ∷ []) = AreDelays m k a b ⊎ AreDelays m k b a
SaysDelays m k (a ∷ b ∷ c ∷ arcs) = ⊥

-- the lemma of the slot does
pub record SaysAt (lemmas : Slots) (m k : Interval) (slot : ℕ) : Type 0 where
  pub lemma : List Lag
  pub found : IsIn lemmas slot lemma
  pub says : SaysDelays m k lemma

-- the lemma of some slot does
pub record HaveDelays (lemmas : Slots) (m k : Interval) : Type 0 where
  pub slot : ℕ
  pub says : SaysAt lemmas m k slot

-- ---- where such lemmas are

-- two activities, the lesser first
abbrev pub joined : ℕ → ℕ → ℕ × ℕ
joined i j = (min i j, max i j)

-- the activities of a lemma of two arcs between two, one each way
abbrev pub ends_of : List Lag → Option (ℕ × ℕ)
ends_of [] = None
ends_of (a ∷ []) = None
ends_of (a ∷ b ∷ []) = if a.from == b.to && a.to == b.from then Some (joined a.from a.to) else None
ends_of (a ∷ b ∷ c ∷ arcs) = None

-- the order of two activities and a slot
abbrev pub place_cmp : (ℕ × ℕ) × ℕ → (ℕ × ℕ) × ℕ → Ordering
place_cmp x y = ordering_then (ordering_then (nat_cmp x.0.0 y.0.0) (nat_cmp x.0.1 y.0.1)) (nat_cmp x.1 y.1)

-- the slot of a lemma of two arcs between two activities, one each way, is listed with these
abbrev pub IsListed : BTreeSet ((ℕ × ℕ) × ℕ) → List Lag → ℕ → Type 0
IsListed places lemma slot = (ends : ℕ × ℕ) → ends_of lemma ≡ Some ends → contains place_cmp places (ends, slot) ≡ true

abbrev pub AreListed : Slots → BTreeSet ((ℕ × ℕ) × ℕ) → Type 0
AreListed lemmas places = (slot : ℕ) (lemma : List Lag) → IsIn lemmas slot lemma → IsListed places lemma slot

-- all that was listed still is
abbrev pub KeepsListed : BTreeSet ((ℕ × ℕ) × ℕ) → BTreeSet ((ℕ × ℕ) × ℕ) → Type 0
KeepsListed old new = (x : (ℕ × ℕ) × ℕ) → contains place_cmp old x ≡ true → contains place_cmp new x ≡ true

-- all of other slots
abbrev pub KeepsOthers : ℕ → BTreeSet ((ℕ × ℕ) × ℕ) → BTreeSet ((ℕ × ℕ) × ℕ) → Type 0
KeepsOthers slot old new =
    (x : (ℕ × ℕ) × ℕ) → x.1 ≢ slot → contains place_cmp old x ≡ true → contains place_cmp new x ≡ true
