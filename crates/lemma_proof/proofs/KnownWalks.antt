-- Weights of walks that are easily seen, and what is known by them or by a matrix.
use Rattle.std.proofs.Common.{◌≡◌, refl, sym, ap, ◌∙◌, subst, ℕ, ◌<◌, arith, ℤ, ◌+ℤ◌, Bool, true, false, eqb, inl, inr, List, [], ◌++◌, length, get_or, Option}
use Rattle.std.proofs.Common.{None, Some, if◌then◌else◌, IsTrue, ◌∷◌}
use Rattle.std.proofs.lemmas.Bool.{eqb-true, false≢true}
use Rattle.std.proofs.lemmas.List.Elements.{Contains-append_cases, Contains-append_left, Contains-append_right}
use Rattle.std.proofs.lemmas.List.FromFn.{get_or-map-range_with_len, length-map-range_with_len}
use Rattle.network.specs.declared.parts.Lag.{Lag}
use Rattle.network.specs.Schedule.{start}
use Rattle.network.specs.Walk.{Rows, entry, weight, IsMatrixOf, HasNoPositiveCycle}
use Rattle.longest_path.specs.Insert.{arc_of}
use Rattle.longest_path.specs.Matrix.{greater, Reaches}
use Rattle.longest_path.proofs.Reach.{greater-cases, same_some, Reaches-weaker}
use Rattle.longest_path.proofs.OneArc.{IsGreatest-matrix}
use Rattle.lemma_proof.specs.Implied.{Implies, ImpliesWith}
use Rattle.lemma_proof.specs.Block.{AreEnds, BlockOf, seen}
use Rattle.lemma_proof.proofs.Implying.{IsPartOf, part_after, implied_part, implied_joined, implied_entry, implied_lower}
use Rattle.lemma_proof.proofs.Existing.{nil_right}
use Rattle.lemma_proof.specs.Reasons.{Entries, AreBelow, IsKnown, TellsWhether, entries_of_block, entries_of_matrix, seen_row, seen_rows}

-- ---- the rows of what is seen

pub length-seen_rows : (rows : Rows) (heads tails : List ℤ) → length (seen_rows rows heads tails) ≡ length rows
length-seen_rows rows heads tails = length-map-range_with_len (seen_row rows heads tails) 0 (length rows)

pub entry-seen_rows : (rows : Rows) (heads tails : List ℤ) (a b : ℕ) → a < length rows → b < length rows
    → entry (seen_rows rows heads tails) a b ≡ seen rows heads tails a b
entry-seen_rows rows heads tails a b la lb =
    ap (λ (r : List (Option ℤ)). get_or r b None) (get_or-map-range_with_len (seen_row rows heads tails) 0 (length rows) a a [] la (omega arith))
    ∙ get_or-map-range_with_len (seen rows heads tails a) 0 (length rows) b b None lb (omega arith)

pub length-entries : (tried : Option Lag) (x : BlockOf) → length (entries_of_block tried x).rows ≡ length x.rows
length-entries None x = length-seen_rows x.rows x.heads x.tails
length-entries (Some e) x = length-seen_rows x.rows x.tried_heads x.tried_tails

pub own-entries : (tried : Option Lag) (x : BlockOf) → (entries_of_block tried x).own ≡ x.rows
own-entries None x = refl
own-entries (Some e) x = refl

-- what the block's arcs imply, they do with the trial's
pub beside_more : (tried : Option Lag) (x : BlockOf) (n : ℕ) (e : Lag) → ImpliesWith n x.rows x.more e → ImpliesWith n x.rows (entries_of_block tried x).more e
beside_more None x n e by = by
beside_more (Some over) x n e by = λ own m. implied_part (own ++ x.more) (own ++ (x.more ++ over ∷ [])) e (part_after own x.more (over ∷ [])) (by own m)

pub beside_over : (over : Lag) (x : BlockOf) (n : ℕ) (e : Lag) → ImpliesWith n x.rows (over ∷ []) e → ImpliesWith n x.rows (x.more ++ over ∷ []) e
beside_over over x n e by own m =
    implied_part (own ++ over ∷ []) (own ++ (x.more ++ over ∷ [])) e
    (λ f there. elim (Contains-append_cases own (over ∷ []) f there) [
      | inl first ↦ Contains-append_left own (x.more ++ over ∷ []) f first
      | inr last ↦ Contains-append_right own (x.more ++ over ∷ []) f (Contains-append_right x.more (over ∷ []) f last)
    ])
    (by own m)

-- ---- what is known by a matrix

pub below_matrix : (n : ℕ) (arcs : List Lag) (rows : Rows) → IsMatrixOf n arcs rows → AreBelow n arcs (entries_of_matrix rows)
below_matrix n arcs rows m = record {
  no_cycle = m.no_cycle;
  walks = λ a b w la lb is. implied_entry n arcs rows a b w m la lb is;
  beside = λ e by. subst (λ (all : List Lag). Implies all e) (nil_right arcs) (by arcs m);
}

-- ---- what is known by heads and tails

seen_walk : (rows : Rows) (own all : List Lag) (heads tails : List ℤ) (a b : ℕ) (w : ℤ) (p q : Bool)
    → IsMatrixOf (length rows) own rows → AreEnds rows all heads tails → a < length rows → b < length rows
    → (p ≡ true → a ≡ 0) → (q ≡ true → b ≡ 0) →
    (if p then Some (start heads b) else (if q then Some (start tails a)
    else greater (entry rows a b) (Some (start tails a +ℤ start heads b)))) ≡ Some w
    → Implies (own ++ all) (arc_of a b w)
seen_walk rows own all heads tails a b w true q m ends la lb zero_a zero_b is =
    let same : start heads b ≡ w = same_some (start heads b) w (Some (start heads b)) refl is in
    let from : a ≡ 0 = zero_a refl in
    let here : Implies (own ++ all) (arc_of 0 b (start heads b)) = ends.reached b lb own m in
    rw (from, sym same) here
seen_walk rows own all heads tails a b w false true m ends la lb zero_a zero_b is =
    let same : start tails a ≡ w = same_some (start tails a) w (Some (start tails a)) refl is in
    let to : b ≡ 0 = zero_b refl in
    let here : Implies (own ++ all) (arc_of a 0 (start tails a)) = ends.reaching a la own m in
    rw (to, sym same) here
seen_walk rows own all heads tails a b w false false m ends la lb zero_a zero_b is =
    elim (greater-cases w (entry rows a b) (Some (start tails a +ℤ start heads b)) is) [
      | inl old ↦ implied_part own (own ++ all) (arc_of a b w) (λ f d. Contains-append_left own all f d)
          (implied_entry (length rows) own rows a b w m la lb old)
      | inr new ↦
          let same : (start tails a +ℤ start heads b) ≡ w = same_some (start tails a +ℤ start heads b) w (Some (start tails a +ℤ start heads b)) refl new.0 in
          let way : Implies (own ++ all) (arc_of a b (start tails a +ℤ start heads b)) =
          implied_joined (own ++ all) a 0 b (start tails a) (start heads b) (ends.reaching a la own m)
          (ends.reached b lb own m) in
          rw same at way
    ]

pub below_seen : (rows : Rows) (own more all : List Lag) (heads tails : List ℤ) → IsMatrixOf (length rows) own rows
    → IsPartOf (own ++ more) (own ++ all) → AreEnds rows all heads tails → HasNoPositiveCycle (own ++ all) →
    AreBelow (length rows) (own ++ all) (record { rows = seen_rows rows heads tails; own = rows; more = more })
below_seen rows own more all heads tails m part ends none = record {
  no_cycle = none;
  walks = λ a b w la lb is. seen_walk rows own all heads tails a b w (eqb a 0) (eqb b 0) m ends la lb (eqb-true a 0)
      (eqb-true b 0) (sym (entry-seen_rows rows heads tails a b la lb) ∙ is);
  beside = λ e by. implied_part (own ++ more) (own ++ all) e part (by own m);
}

-- ---- whether an arc is implied

pub yes_by_entry : (x : Entries) (e : Lag) (o : Option ℤ) → e.from < length x.rows → e.to < length x.rows
    → o ≡ entry x.rows e.from e.to → Reaches e.weight o → TellsWhether (length x.rows) x true (λ arcs. Implies arcs e)
yes_by_entry x e o from to is r = λ exact arcs m. record {
  shown = λ yes. implied_lower arcs e.from e.to e.weight r.0 r.2 (m.below.walks e.from e.to r.0 from to (sym is ∙ r.1));
  only = λ sure p. refl;
}

pub told_beside : (x : Entries) (e : Lag) (o : Option ℤ) (answer : Bool) → e.from < length x.rows → e.to < length x.rows
    → o ≡ entry x.rows e.from e.to → ¬ Reaches e.weight o → (IsTrue answer → ImpliesWith (length x.rows) x.own x.more e)
    → TellsWhether (length x.rows) x answer (λ arcs. Implies arcs e)
told_beside x e o answer from to is never by = λ exact arcs m. record {
  shown = λ yes. m.below.beside e (by yes);
  only = λ sure p.
      let there = (IsGreatest-matrix (length x.rows) arcs x.rows (m.matrix sure)).covered e.from e.to p.walk from to p.goes in
      absurd (never (rw is (Reaches-weaker e.weight (weight p.walk) (entry x.rows e.from e.to) p.weighs there)));
}

-- ---- what is known exactly

pub known_matrix : (n : ℕ) (arcs : List Lag) (rows : Rows) → IsMatrixOf n arcs rows → IsKnown true n arcs (entries_of_matrix rows)
known_matrix n arcs rows m = record { below = below_matrix n arcs rows m; matrix = λ e. m }

pub known_below : (n : ℕ) (arcs : List Lag) (x : Entries) → AreBelow n arcs x → IsKnown false n arcs x
known_below n arcs x below = record { below = below; matrix = λ e. absurd (false≢true e) }
