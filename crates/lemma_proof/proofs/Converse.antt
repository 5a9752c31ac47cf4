-- Walks over arcs that go the other way.
use Rattle.std.proofs.Common.{◌≡◌, refl, sym, ◌∙◌, ap, subst, ℕ, ◌<◌, arith, ℤ, pos, ◌≤ℤ◌, List, [], ◌∷◌, ◌++◌, length, get_or, Option, None, Some, inl, inr}
use Rattle.std.specs.List.{Contains}
use Rattle.std.proofs.lemmas.Int.{ints}
use Rattle.std.proofs.lemmas.List.{length-map, get_or-map}
use Rattle.std.proofs.lemmas.List.Elements.{Contains-get_or, Contains-append_cases, Contains-append_left, Contains-append_right}
use Rattle.network.specs.declared.parts.Lag.{Lag}
use Rattle.network.specs.Schedule.{start}
use Rattle.network.specs.Walk.{IsWalk, weight, IsMatrixOf, IsGreatestWeight, Rows, entry}
use Rattle.network.proofs.Walks.{IsWalk-append, weight-append}
use Rattle.longest_path.specs.Insert.{arc_of}
use Rattle.longest_path.specs.Matrix.{IsMatrix, IsFull, IsSquare}
use Rattle.longest_path.proofs.Weights.{IsSquare-inside}
use Rattle.lemma_proof.specs.Implied.{Implies, AreReached}
use Rattle.lemma_proof.specs.Block.{converse_of, AreReaching}
use Rattle.lemma_proof.specs.Halves.{AreConverse, converses}

-- the walk in the other direction
back : List Lag → List Lag
back [] = []
back (e ∷ es) = back es ++ converse_of e ∷ []

-- each arc of one list has its converse in the other
abbrev pub GoesBack : List Lag → List Lag → Type 0
GoesBack arcs others = (e : Lag) → Contains arcs e → Contains others (converse_of e)

pub converse_there : (arcs : List Lag) → GoesBack (converses arcs) arcs
converse_there arcs e c =
    let none : Lag = arc_of 0 0 (pos 0) in
    let i : ℕ = c.0 in
    let low : c.0 < length arcs = rw (length-map arcs converse_of) at c.1 in
    let is : converse_of (get_or arcs c.0 none) ≡ e = sym (get_or-map converse_of arcs c.0 none e low) ∙ c.2 in
    subst (Contains arcs) (ap converse_of is) (Contains-get_or arcs c.0 none low)

pub converse_back : (arcs : List Lag) → GoesBack arcs (converses arcs)
converse_back arcs e c =
    let low : c.0 < length (converses arcs) = rw (length-map arcs converse_of) c.1 in
    (c.0, low, get_or-map converse_of arcs c.0 e (converse_of e) c.1 ∙ ap converse_of c.2)

weight-back : (es : List Lag) → weight (back es) ≡ weight es
unfolding back
weight-back [] = refl
weight-back (e ∷ es) = let h = weight-back es in let k = weight-append (back es) (converse_of e ∷ []) in omega (arith, ints, h, k)

IsWalk-back : (arcs others : List Lag) (a b : ℕ) (es : List Lag) → GoesBack arcs others → IsWalk arcs a es b → IsWalk others b (back es) a
unfolding back
IsWalk-back arcs others a b [] goes w = sym w
IsWalk-back arcs others a b (e ∷ es) goes w =
    IsWalk-append others b e.to a (back es) (converse_of e ∷ []) (IsWalk-back arcs others e.to b es goes w.2) (goes e w.0, refl, w.1)

pub implied_back : (arcs others : List Lag) (a b : ℕ) (w : ℤ) → GoesBack arcs others → Implies arcs (arc_of a b w) → Implies others (arc_of b a w)
implied_back arcs others a b w goes i =
    let h : w ≤ℤ weight i.walk = i.weighs in
    let same = weight-back i.walk in
    record { walk = back i.walk; goes = IsWalk-back arcs others a b i.walk goes i.goes; weighs = omega (arith, ints, same) }

-- ---- the matrix of the arcs in the other direction

greatest_back : (own : List Lag) (a b : ℕ) (o : Option ℤ) → IsGreatestWeight own a b o → IsGreatestWeight (converses own) b a o
greatest_back own a b None none = λ es w. none (back es) (IsWalk-back (converses own) own b a es (converse_there own) w)
greatest_back own a b (Some g) h = (
  (back h.0.0, IsWalk-back own (converses own) a b h.0.0 (converse_back own) h.0.1, weight-back h.0.0 ∙ h.0.2),
  λ es w.
      let most : weight (back es) ≤ℤ g = h.1 (back es) (IsWalk-back (converses own) own b a es (converse_there own) w) in
      let same = weight-back es in
      omega (arith, ints),
)

pub matrix_back : (n : ℕ) (own : List Lag) (rows columns : Rows) → length rows ≡ n → IsSquare n columns
    → AreConverse rows columns → IsMatrixOf n own rows → IsMatrixOf n (converses own) columns
matrix_back n own rows columns long square c m = record {
  inside = λ e there. let ends = m.inside (converse_of e) (converse_there own e there) in (ends.1, ends.0);
  square = (square.rows_long, square.columns_long);
  no_cycle = λ a es w.
      let low : weight (back es) ≤ℤ pos 0 = m.no_cycle a (back es) (IsWalk-back (converses own) own a a es (converse_there own) w) in
      let same = weight-back es in
      omega (arith, ints);
  greatest = λ a b la lb. rw (c.entries b a (rw long lb) (rw long la)) (greatest_back own b a (entry rows b a) (m.greatest b a lb la));
}

pub is_matrix_back : (rows columns : Rows) → IsSquare (length rows) columns → AreConverse rows columns → IsFull columns → IsMatrix rows → IsMatrix columns
is_matrix_back rows columns square c full m =
    let here : IsMatrixOf (length rows) (converses m.arcs) columns = matrix_back (length rows) m.arcs rows columns refl square c m.matrix in
    record {
      arcs = converses m.arcs;
      light = inr full;
      few = rw c.long m.few;
      matrix = rw c.long here;
      within = λ a b w is.
          let ends = IsSquare-inside (length rows) a b w columns square is in
          m.within b a w (sym (c.entries b a ends.1 ends.0) ∙ is);
    }

-- ---- tails are heads of the other direction

both_back : (own more others : List Lag) → GoesBack others more → GoesBack (converses own ++ others) (own ++ more)
both_back own more others part e there = elim (Contains-append_cases (converses own) others e there) [
  | inl first ↦ Contains-append_left own more (converse_of e) (converse_there own e first)
  | inr second ↦ Contains-append_right own more (converse_of e) (part e second)
]

pub reached_back : (rows columns : Rows) (more others : List Lag) (s : List ℤ) → IsSquare (length rows) columns
    → AreConverse rows columns → GoesBack others more →
    AreReached (length columns) columns others s → AreReaching (length rows) rows more s
reached_back rows columns more others s square c part reached i li own m =
    let there : IsMatrixOf (length rows) (converses own) columns = matrix_back (length rows) own rows columns refl square c m in
    let there' : IsMatrixOf (length columns) (converses own) columns = rw c.long there in
    implied_back (converses own ++ others) (own ++ more) 0 i (start s i) (both_back own more others part) (reached i (rw c.long li) (converses own) there')
