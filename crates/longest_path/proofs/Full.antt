-- Matrices by which every activity reaches every other: no entry is beyond the least one.
use Rattle.std.proofs.Common.{◌≡◌, refl, sym, ℕ, ◌<◌, Some, ◌⊎◌, inl, inr, ⊎_elim, arith, ℤ, pos, neg_ℤ, ◌+ℤ◌, ◌≤ℤ◌, List, [], ◌∷◌, ◌++◌, length}
use Rattle.std.proofs.lemmas.Int.{ints, by_lt_z}
use Rattle.network.specs.declared.parts.Lag.{Lag}
use Rattle.network.specs.declared.limits.TheConstants.{MAX_LAG_WEIGHT, MAX_WALK_WEIGHT}
use Rattle.network.specs.Problem.{IsWithin}
use Rattle.network.specs.Walk.{entry, weight, AreLight, IsGreatestWeight, IsMatrixOf, Rows}
use Rattle.longest_path.specs.declared.grid.TheConstants.{MAX_FIRST_WEIGHT}
use Rattle.longest_path.specs.Matrix.{joined, Reaches, IsSquare, IsFull, IsMatrix}
use Rattle.longest_path.specs.Insert.{weight_over, entry_over, rows_over, EndGains, IsEntryOver, FillsRows, MayInsert}
use Rattle.longest_path.proofs.Reach.{at_Reaches, same_some, greater-kept, greater-cases, joined-parts, joined-some}
use Rattle.longest_path.proofs.Weights.{IsSquare-inside, square_of, diagonal_at}
use Rattle.longest_path.proofs.Over.{transitive, first_within}
use Rattle.longest_path.proofs.Inserted.{GainsNothing, adds, still_light, length-rows_over, entry-rows_over}

-- full rows stay so
pub full_over : (e : Lag) (rows : Rows) → IsFull rows → IsFull (rows_over e rows)
full_over e rows full a b la lb =
    let long = length-rows_over e rows in
    let low_a : a < length rows = rw long at la in
    let low_b : b < length rows = rw long at lb in
    rw (entry-rows_over e rows a b low_a low_b)
    (greater-kept (neg_ℤ MAX_WALK_WEIGHT) (entry rows a b) (joined (weight_over e rows a) (entry rows e.to b))
    (full a b low_a low_b))

-- why an arc may be inserted into a matrix
pub record IsLightWith (e : Lag) (rows : Rows) (m : IsMatrix rows) : Type 0 where
  pub arcs : AreLight m.arcs
  pub light : IsWithin MAX_LAG_WEIGHT e.weight

pub why_may : (e : Lag) (rows : Rows) (m : IsMatrix rows) → MayInsert e rows → IsLightWith e rows m ⊎ FillsRows e rows
why_may e rows m may =
    ⊎_elim
    (λ (light : IsWithin MAX_LAG_WEIGHT e.weight).
    ⊎_elim
    (λ (arcs : AreLight m.arcs). inl (record { arcs = arcs; light = light }))
    (λ (full : IsFull rows). inr (record {
      light =
          record { at_least = omega (arith, ints, light.at_least); at_most = omega (arith, ints, light.at_most) };
      full =
          full_over e rows full;
    }))
    m.light)
    (λ (fills : FillsRows e rows). inr fills)
    may

-- ---- with such an arc

over_reaches : (e : Lag) (rows : Rows) → FillsRows e rows → (a b : ℕ) → a < length rows → b < length rows
    → Reaches (neg_ℤ MAX_WALK_WEIGHT) (entry_over e rows a b)
over_reaches e rows fills a b la lb =
    let long = length-rows_over e rows in
    rw (entry-rows_over e rows a b la lb) at (fills.full a b (rw long la) (rw long lb))

-- the way back from the arc's end was there
way_back : (e : Lag) (rows : Rows) → FillsRows e rows → GainsNothing e rows → e.to < length rows → (a : ℕ)
    → a < length rows → Reaches (neg_ℤ MAX_WALK_WEIGHT) (entry rows e.to a)
way_back e rows fills gains lt a la =
    let r = over_reaches e rows fills e.to a lt la in
    let low : neg_ℤ MAX_WALK_WEIGHT ≤ℤ r.0 = r.2 in
    elim (greater-cases r.0 (entry rows e.to a) (joined (weight_over e rows e.to) (entry rows e.to a)) r.1) [
      | inl old ↦ (r.0, old, low)
      | inr new ↦
          let parts = joined-parts r.0 (weight_over e rows e.to) (entry rows e.to a) new.0 in
          let down : parts.0 ≤ℤ pos 0 = gains parts.0 parts.2 in
          let sum : r.0 ≡ parts.0 +ℤ parts.1 = parts.4 in
          (parts.1, parts.3, omega (arith, ints))
    ]

-- what a way over the arc gains is a weight of a walk
gained : (e : Lag) (rows : Rows) (m : IsMatrix rows) → e.from < length rows → e.to < length rows → FillsRows e rows
    → GainsNothing e rows → (a : ℕ) (w : ℤ) → EndGains e rows a w → IsWithin MAX_WALK_WEIGHT w
gained e rows m lf lt fills gains a w g =
    let square : IsSquare (length rows) rows = square_of rows m in
    let parts = joined-parts w (entry rows a e.from) (Some e.weight) g.over in
    let same : parts.1 ≡ e.weight = same_some parts.1 e.weight (Some e.weight) parts.3 refl in
    let is : w ≡ parts.0 +ℤ parts.1 = parts.4 in
    let la : a < length rows = (IsSquare-inside (length rows) a e.from parts.0 rows square parts.2).0 in
    let back = way_back e rows fills gains lt a la in
    let back_low : neg_ℤ MAX_WALK_WEIGHT ≤ℤ back.0 = back.2 in
    let round = transitive (length rows) m.arcs rows m.matrix e.to a e.from back.0 parts.0 back.1 parts.2 in
    let round_le : (back.0 +ℤ parts.0) ≤ℤ round.0 = round.2 in
    let closed : (round.0 +ℤ e.weight) ≤ℤ pos 0 =
    gains (round.0 +ℤ e.weight) (joined-some round.0 e.weight (entry rows e.to e.from) (Some e.weight) round.1 refl)
    in
    let stays : entry rows e.to e.to ≡ Some (pos 0) = diagonal_at rows e.to e.to (entry rows e.to e.to) m lt refl refl in
    let r = over_reaches e rows fills a e.to la lt in
    let low : neg_ℤ MAX_WALK_WEIGHT ≤ℤ r.0 = r.2 in
    let least : neg_ℤ MAX_WALK_WEIGHT ≤ℤ w =
    ⊎_elim
    (λ (old : entry rows a e.to ≡ Some r.0). by_lt_z r.0 w (λ less. omega (arith, ints)) (λ reached. absurd (g.more (r.0, old, reached))))
    (λ (new : (joined (weight_over e rows a) (entry rows e.to e.to) ≡ Some r.0) × (Reaches r.0 (entry rows a e.to) → ⊥)).
    let sum : r.0 ≡ w +ℤ pos 0 = same_some r.0 (w +ℤ pos 0) (joined (weight_over e rows a) (entry rows e.to e.to)) new.0
    (joined-some w (pos 0) (weight_over e rows a) (entry rows e.to e.to) g.over stays) in
    omega (arith, ints))
    (greater-cases r.0 (entry rows a e.to) (joined (weight_over e rows a) (entry rows e.to e.to)) r.1) in
    record { at_least = least; at_most = omega (arith, ints) }

-- of full rows
still_full : (n : ℕ) (e : Lag) (rows new : Rows) → length rows ≡ n → IsMatrix rows → e.from < n → e.to < n
    → FillsRows e rows → GainsNothing e rows → IsSquare n new → ((a b : ℕ) → IsEntryOver e rows a b (entry new a b))
    → IsMatrix new
still_full n e rows new long m lf lt fills gains square over =
    let old : IsMatrixOf n m.arcs rows = rw long at m.matrix in
    let is : IsMatrixOf n (m.arcs ++ e ∷ []) new = adds n e rows new lf lt gains square over m.arcs old in
    let same : length new ≡ n = square.rows_long in
    let full : (a b : ℕ) → a < n → b < n → Reaches (neg_ℤ MAX_WALK_WEIGHT) (entry new a b) = λ a b la lb.
    rw (over a b) (over_reaches e rows fills a b (rw long la) (rw long lb)) in
    let whole : IsMatrixOf (length new) (m.arcs ++ e ∷ []) new = rw same is in
    record {
      arcs = m.arcs ++ e ∷ [];
      light = inr (rw same full);
      few = rw (same, sym long) m.few;
      matrix = whole;
      within = λ a b w h.
          let ends = IsSquare-inside n a b w new square h in
          let there : neg_ℤ MAX_WALK_WEIGHT ≤ℤ w = at_Reaches (neg_ℤ MAX_WALK_WEIGHT) w (entry new a b) h (full a b ends.0 ends.1) in
          let back = full b a ends.1 ends.0 in
          let back_low : neg_ℤ MAX_WALK_WEIGHT ≤ℤ back.0 = back.2 in
          let round = transitive n (m.arcs ++ e ∷ []) new is a b a w back.0 h back.1 in
          let round_le : (w +ℤ back.0) ≤ℤ round.0 = round.2 in
          let none : round.0 ≤ℤ pos 0 = closed n (m.arcs ++ e ∷ []) new a round.0 is ends.0 round.1 in
          record { at_least = there; at_most = omega (arith, ints) };
    }
  where
    closed : (n : ℕ) (arcs : List Lag) (rows : Rows) (a : ℕ) (w : ℤ) → IsMatrixOf n arcs rows → a < n → entry rows a a ≡ Some w → w ≤ℤ pos 0
    closed n arcs rows a w m la h =
        let at : IsGreatestWeight arcs a a (Some w) = rw h at (m.greatest a a la la) in
        let low : weight at.0.0 ≤ℤ pos 0 = m.no_cycle a at.0.0 at.0.1 in
        let is : weight at.0.0 ≡ w = at.0.2 in
        omega (arith, ints)

-- ---- either way

pub still_matrix : (n : ℕ) (e : Lag) (rows new : Rows) → length rows ≡ n → (m : IsMatrix rows) → e.from < n → e.to < n
    → IsLightWith e rows m ⊎ FillsRows e rows → GainsNothing e rows → IsSquare n new
    → ((a b : ℕ) → IsEntryOver e rows a b (entry new a b)) → IsMatrix new
still_matrix n e rows new long m lf lt (inl light) gains square over = still_light n e rows new long m light.arcs lf lt light.light gains square over
still_matrix n e rows new long m lf lt (inr fills) gains square over = still_full n e rows new long m lf lt fills gains square over

pub first_fits : (e : Lag) (rows : Rows) (m : IsMatrix rows) → e.from < length rows → e.to < length rows
    → IsLightWith e rows m ⊎ FillsRows e rows → GainsNothing e rows → (a : ℕ) (w : ℤ) → EndGains e rows a w
    → IsWithin MAX_FIRST_WEIGHT w
first_fits e rows m lf lt (inl light) gains a w g = first_within (entry rows a e.from) e.weight w g.over (m.within a e.from) light.light
first_fits e rows m lf lt (inr fills) gains a w g =
    let small : IsWithin MAX_WALK_WEIGHT w = gained e rows m lf lt fills gains a w g in
    record { at_least = omega (arith, ints, small.at_least); at_most = omega (arith, ints, small.at_most) }

pub weight_fits : (e : Lag) (rows : Rows) (m : IsMatrix rows) → IsLightWith e rows m ⊎ FillsRows e rows → IsWithin MAX_WALK_WEIGHT e.weight
weight_fits e rows m (inl light) = record { at_least = omega (arith, ints, light.light.at_least); at_most = omega (arith, ints, light.light.at_most) }
weight_fits e rows m (inr fills) = fills.light
