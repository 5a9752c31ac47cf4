-- Weights that rise by the way over an arc.
use Rattle.std.proofs.Common.{◌≡◌, refl, ◌∙◌, ℕ, ◌<◌, arith, ℤ, pos, neg_ℤ, ◌+ℤ◌, ◌≤ℤ◌, List, [], ◌∷◌, ◌++◌, Some, length}
use Rattle.std.proofs.lemmas.Int.{ints, clamps, by_lt_z}
use Rattle.std.proofs.lemmas.List.Elements.{Contains-append_left, Contains-append_right}
use Rattle.network.specs.declared.parts.Lag.{Lag}
use Rattle.network.specs.declared.limits.TheConstants.{MAX_WALK_WEIGHT}
use Rattle.network.specs.Problem.{IsWithin}
use Rattle.network.specs.Schedule.{start}
use Rattle.network.specs.Walk.{Rows, entry}
use Rattle.longest_path.specs.Insert.{arc_of}
use Rattle.longest_path.specs.Matrix.{Reaches}
use Rattle.longest_path.proofs.OneArc.{IsGreatest-matrix}
use Rattle.longest_path.proofs.Over.{transitive}
use Rattle.longest_path.proofs.Reach.{same_some}
use Rattle.longest_path.proofs.Weights.{square_of, IsSquare-inside}
use Rattle.lemma_proof.specs.Heads.{IsLight, IsTable}
use Rattle.lemma_proof.specs.Implied.{Implies, AreReached}
use Rattle.lemma_proof.specs.Rising.{AreAmong, AreThereAndBack, HaveRisen, IsRaised}
use Rattle.lemma_proof.proofs.Implying.{implied_part, implied_joined, implied_arc, implied_entry, implied_lower}

-- the way from an activity to itself weighs 0 or more
pub at_home : (rows : Rows) → IsTable rows → (i : ℕ) → i < length rows → Reaches (pos 0) (entry rows i i)
at_home rows t i li = (IsGreatest-matrix (length rows) t.matrix.arcs rows t.matrix.matrix).covered i i [] li li refl

-- the weights are no greater than those of walks
pub there_small : (rows : Rows) (there back : List ℤ) → IsTable rows → AreThereAndBack rows there back → (i : ℕ)
    → i < length rows → IsWithin MAX_WALK_WEIGHT (start there i)
there_small rows there back t b i li =
    let out = t.full 0 i t.some li in
    let home = t.full i 0 li t.some in
    let least : neg_ℤ MAX_WALK_WEIGHT ≤ℤ out.0 = out.2 in
    let home_least : neg_ℤ MAX_WALK_WEIGHT ≤ℤ home.0 = home.2 in
    let on : (start there 0 +ℤ out.0) ≤ℤ start there i = b.met 0 i out.0 out.1 in
    let back_on : (home.0 +ℤ start back 0) ≤ℤ start back i = b.back_met i 0 home.0 home.1 in
    let closed : (start there i +ℤ start back i) ≤ℤ pos 0 = b.closed i li in
    record { at_least = omega (arith, ints, b.low); at_most = omega (arith, ints, b.back_low) }

pub back_small : (rows : Rows) (there back : List ℤ) → IsTable rows → AreThereAndBack rows there back → (i : ℕ)
    → i < length rows → IsWithin MAX_WALK_WEIGHT (start back i)
back_small rows there back t b i li =
    let out = t.full 0 i t.some li in
    let home = t.full i 0 li t.some in
    let least : neg_ℤ MAX_WALK_WEIGHT ≤ℤ out.0 = out.2 in
    let home_least : neg_ℤ MAX_WALK_WEIGHT ≤ℤ home.0 = home.2 in
    let on : (start there 0 +ℤ out.0) ≤ℤ start there i = b.met 0 i out.0 out.1 in
    let back_on : (home.0 +ℤ start back 0) ≤ℤ start back i = b.back_met i 0 home.0 home.1 in
    let closed : (start there i +ℤ start back i) ≤ℤ pos 0 = b.closed i li in
    record { at_least = omega (arith, ints, b.back_low); at_most = omega (arith, ints, b.low) }

-- ---- one arc

raised_met : (rows : Rows) (to : ℕ) (way : ℤ) (there back new : List ℤ) → IsTable rows → to < length rows
    → AreThereAndBack rows there back → IsRaised rows to way there new →
    (a b : ℕ) (w : ℤ) → entry rows a b ≡ Some w → (start new a +ℤ w) ≤ℤ start new b
raised_met rows to way there back new t lt both r a b w is =
    let ends = IsSquare-inside (length rows) a b w rows (square_of rows t.matrix) is in
    let old : (start there a +ℤ w) ≤ℤ start there b = both.met a b w is in
    let first = t.full to a lt ends.0 in
    let last = t.full to b lt ends.1 in
    let through = transitive (length rows) t.matrix.arcs rows t.matrix.matrix to a b first.0 w first.1 is in
    let same : through.0 ≡ last.0 = same_some through.0 last.0 (entry rows to b) through.1 last.1 in
    let on : (first.0 +ℤ w) ≤ℤ through.0 = through.2 in
    let new_a = r.raised a first.0 first.1 in
    let new_b = r.raised b last.0 last.1 in
    omega (arith, ints, clamps, new_a, new_b, same, on, old)

raised_closed : (rows : Rows) (to : ℕ) (way : ℤ) (there back new : List ℤ) → IsTable rows → to < length rows
    → AreThereAndBack rows there back → (way +ℤ start back to) ≤ℤ pos 0 → IsRaised rows to way there new →
    (i : ℕ) → i < length rows → (start new i +ℤ start back i) ≤ℤ pos 0
raised_closed rows to way there back new t lt both low r i li =
    let on = t.full to i lt li in
    let home : (on.0 +ℤ start back i) ≤ℤ start back to = both.back_met to i on.0 on.1 in
    let old : (start there i +ℤ start back i) ≤ℤ pos 0 = both.closed i li in
    let is = r.raised i on.0 on.1 in
    omega (arith, ints, clamps, is, home, old)

raised_grown : (rows : Rows) (to : ℕ) (way : ℤ) (there new : List ℤ) → IsTable rows → to < length rows
    → IsRaised rows to way there new → (i : ℕ) → i < length rows → start there i ≤ℤ start new i
raised_grown rows to way there new t lt r i li =
    let on = t.full to i lt li in
    let is = r.raised i on.0 on.1 in
    omega (arith, ints, clamps, is)

raised_both : (rows : Rows) (to : ℕ) (way : ℤ) (there back new : List ℤ) → IsTable rows → to < length rows
    → AreThereAndBack rows there back → (way +ℤ start back to) ≤ℤ pos 0 → IsRaised rows to way there new
    → AreThereAndBack rows new back
raised_both rows to way there back new t lt both low r =
    let kept : start there 0 ≤ℤ start new 0 = raised_grown rows to way there new t lt r 0 t.some in
    record {
      long = r.long ∙ both.long;
      back_long = both.back_long;
      met = raised_met rows to way there back new t lt both r;
      back_met = both.back_met;
      low = omega (arith, ints, kept, both.low);
      back_low = both.back_low;
      closed = raised_closed rows to way there back new t lt both low r;
    }

-- the end of the arc is reached by the way over it
pub raised_over : (rows : Rows) (to : ℕ) (way : ℤ) (there new : List ℤ) → IsTable rows → to < length rows → IsRaised rows to way there new → way ≤ℤ start new to
raised_over rows to way there new t lt r =
    let on = at_home rows t to lt in
    let low : pos 0 ≤ℤ on.0 = on.2 in
    let is = r.raised to on.0 on.1 in
    omega (arith, ints, clamps, is, low)

raised_reached : (rows : Rows) (e : Lag) (there new : List ℤ) → IsTable rows → IsLight (length rows) e
    → IsRaised rows e.to (start there e.from +ℤ e.weight) there new → (all : List Lag) → AreAmong (e ∷ []) all
    → AreReached (length rows) rows all there → AreReached (length rows) rows all new
raised_reached rows e there new t light r all among reached i li own m =
    let on = t.full e.to i light.to_activity li in
    let is = r.raised i on.0 on.1 in
    by_lt_z (start there i) ((start there e.from +ℤ e.weight) +ℤ on.0)
    (λ less.
    let first : Implies (own ++ all) (arc_of 0 e.from (start there e.from)) = reached e.from light.from_activity own m in
    let over : Implies (own ++ all) (arc_of e.from e.to e.weight) =
    implied_arc (own ++ all) e (Contains-append_right own all e (among e (0, omega arith, refl))) in
    let last : Implies own (arc_of e.to i on.0) = implied_entry (length rows) own rows e.to i on.0 m light.to_activity li on.1 in
    let after : Implies (own ++ all) (arc_of e.to i on.0) = implied_part own (own ++ all) (arc_of e.to i on.0) (λ f d. Contains-append_left own all f d) last in
    let whole = implied_joined (own ++ all) 0 e.to i (start there e.from +ℤ e.weight) on.0
    (implied_joined (own ++ all) 0 e.from e.to (start there e.from) e.weight first over) after in
    implied_lower (own ++ all) 0 i (start new i) ((start there e.from +ℤ e.weight) +ℤ on.0) (omega (arith, ints, clamps, is)) whole)
    (λ kept. implied_lower (own ++ all) 0 i (start new i) (start there i) (omega (arith, ints, clamps, is)) (reached i li own m))

pub risen_raised : (rows : Rows) (e : Lag) (there back new : List ℤ) → IsTable rows → IsLight (length rows) e
    → AreThereAndBack rows there back → ((start there e.from +ℤ e.weight) +ℤ start back e.to) ≤ℤ pos 0
    → IsRaised rows e.to (start there e.from +ℤ e.weight) there new → HaveRisen rows (e ∷ []) back there new
risen_raised rows e there back new t light both low r = record {
  both = raised_both rows e.to (start there e.from +ℤ e.weight) there back new t light.to_activity both low r;
  grown = raised_grown rows e.to (start there e.from +ℤ e.weight) there new t light.to_activity r;
  reached = raised_reached rows e there new t light r;
}

-- ---- arc after arc

pub risen_none : (rows : Rows) (arcs : List Lag) (back s : List ℤ) → AreThereAndBack rows s back → HaveRisen rows arcs back s s
risen_none rows arcs back s both = record { both = both; grown = λ i li. omega (arith, ints); reached = λ all among r. r }

pub risen_more : (rows : Rows) (arcs : List Lag) (back x y z : List ℤ) → HaveRisen rows arcs back x y
    → HaveRisen rows arcs back y z → HaveRisen rows arcs back x z
risen_more rows arcs back x y z first next = record {
  both = next.both;
  grown = λ i li. let one = first.grown i li in let two = next.grown i li in omega (arith, ints);
  reached = λ all among r. next.reached all among (first.reached all among r);
}

pub risen_part : (rows : Rows) (arcs others : List Lag) (back x y : List ℤ) → AreAmong arcs others
    → HaveRisen rows arcs back x y → HaveRisen rows others back x y
risen_part rows arcs others back x y part h = record {
  both = h.both;
  grown = h.grown;
  reached = λ all among r. h.reached all (λ e c. among e (part e c)) r;
}

-- ---- the way over an arc

pub way_small : (rows : Rows) (there back : List ℤ) (e : Lag) → IsTable rows → AreThereAndBack rows there back
    → IsLight (length rows) e → IsWithin (MAX_WALK_WEIGHT +ℤ MAX_WALK_WEIGHT) (start there e.from +ℤ e.weight)
way_small rows there back e t both light =
    let small = there_small rows there back t both e.from light.from_activity in
    let weight = light.light in
    record { at_least = omega (arith, ints, small.at_least, weight.at_least); at_most = omega (arith, ints, small.at_most, weight.at_most) }

-- a way that raises the weight of an activity, and is not too long with the way back
pub way_between : (rows : Rows) (there back : List ℤ) (way : ℤ) (to : ℕ) → IsTable rows
    → AreThereAndBack rows there back → to < length rows → start there to ≤ℤ way → (way +ℤ start back to) ≤ℤ pos 0
    → IsWithin MAX_WALK_WEIGHT way
way_between rows there back way to t both lt more closed =
    let small = there_small rows there back t both to lt in
    let home = back_small rows there back t both to lt in
    record { at_least = omega (arith, ints, small.at_least, more); at_most = omega (arith, ints, home.at_least, closed) }
