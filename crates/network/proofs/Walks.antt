-- Laws of walks: joined end to end, cut at a vertex, and how long one can be that visits no inner
-- vertex twice.
use Rattle.std.proofs.Common.{◌≡◌, refl, sym, ap, ℕ, ◌+◌, ◌*◌, ◌<◌, ◌≤◌, ◌⊎◌, inl, inr, arith, ℤ, pos, unsigned_abs, ◌+ℤ◌, List, [], ◌∷◌, ◌++◌, length, true}
use Rattle.std.proofs.Common.{false, eqb}
use Rattle.std.proofs.lemmas.Int.{ints}
use Rattle.std.specs.List.{Contains, IsDistinct, list_any, AllByRecursion}
use Rattle.std.proofs.lemmas.Bool.{ne_eqb, eqb-true, or_cases}
use Rattle.std.proofs.lemmas.Map.Steps.{length-le_from_distinct_below}
use Rattle.network.specs.Problem.{IsWithin, Lag, MAX_LAG_WEIGHT}
use Rattle.network.specs.Walk.{IsWalk, weight, AreLight}

pub IsWalk-append : (arcs : List Lag) (a b c : ℕ) (es fs : List Lag) → IsWalk arcs a es b → IsWalk arcs b fs c → IsWalk arcs a (es ++ fs) c
IsWalk-append arcs a b c [] fs p q = rw p q
IsWalk-append arcs a b c (e ∷ es) fs p q = (p.0, p.1, IsWalk-append arcs e.to b c es fs p.2 q)

pub weight-append : (es fs : List Lag) → weight (es ++ fs) ≡ weight es +ℤ weight fs
weight-append [] fs = omega (arith, ints)
weight-append (e ∷ es) fs = let h = weight-append es fs in rw h (omega (arith, ints))

-- the vertices between the ends
abbrev pub inner : List Lag → List ℕ
inner [] = []
inner (e ∷ []) = []
inner (e ∷ f ∷ es) = e.to ∷ inner (f ∷ es)

abbrev pub IsAmong : ℕ → List ℕ → Type 0
IsAmong v [] = ⊥
IsAmong v (x ∷ xs) = (v ≡ x) ⊎ IsAmong v xs

abbrev pub AllBelow : ℕ → List ℕ → Type 0
AllBelow m [] = Unit {0}
AllBelow m (x ∷ xs) = (x < m) × AllBelow m xs

-- no vertex twice
abbrev pub IsSimple : List ℕ → Type 0
IsSimple [] = Unit {0}
IsSimple (x ∷ xs) = (IsAmong x xs → ⊥) × IsSimple xs

pub AllBelow-among : (m v : ℕ) (xs : List ℕ) → AllBelow m xs → IsAmong v xs → v < m
AllBelow-among m v [] h k = absurd k
AllBelow-among m v (x ∷ xs) h k = elim k [ inl e ↦ rw e h.0 | inr r ↦ AllBelow-among m v xs h.1 r ]

pub AllBelow-more : (m : ℕ) (xs : List ℕ) → AllBelow m xs → AllBelow (m + 1) xs
AllBelow-more m [] h = tt
AllBelow-more m (x ∷ xs) h = let lt : x < m = h.0 in (omega arith, AllBelow-more m xs h.1)

pub AllBelow-append : (m : ℕ) (xs ys : List ℕ) → AllBelow m xs → AllBelow m ys → AllBelow m (xs ++ ys)
AllBelow-append m [] ys h k = k
AllBelow-append m (x ∷ xs) ys h k = (h.0, AllBelow-append m xs ys h.1 k)

IsAmong-append : (v : ℕ) (xs ys : List ℕ) → IsAmong v (xs ++ ys) → IsAmong v xs ⊎ IsAmong v ys
IsAmong-append v [] ys h = inr h
IsAmong-append v (x ∷ xs) ys h =
    elim h [
      | inl e ↦ inl (inl e)
      | inr r ↦ elim (IsAmong-append v xs ys r) [ inl p ↦ inl (inr p) | inr q ↦ inr q ]
    ]

pub IsSimple-append : (xs ys : List ℕ) → IsSimple xs → IsSimple ys → ((v : ℕ) → IsAmong v xs → IsAmong v ys → ⊥) → IsSimple (xs ++ ys)
IsSimple-append [] ys h k apart = k
IsSimple-append (x ∷ xs) ys h k apart = (
  λ r. elim (IsAmong-append x xs ys r) [ inl p ↦ h.0 p | inr q ↦ apart x (inl refl) q ],
  IsSimple-append xs ys h.1 k (λ v p q. apart v (inr p) q),
)

-- the inner vertices of one walk after another, neither of them empty
pub inner-append : (arcs : List Lag) (a b : ℕ) (e f : Lag) (es fs : List Lag) → IsWalk arcs a (e ∷ es) b
    → inner ((e ∷ es) ++ (f ∷ fs)) ≡ inner (e ∷ es) ++ b ∷ inner (f ∷ fs)
inner-append arcs a b e f [] fs w = ap (λ v. v ∷ inner (f ∷ fs)) w.2
inner-append arcs a b e f (g ∷ es) fs w = ap (λ t. e.to ∷ t) (inner-append arcs e.to b g f es fs w.2)

-- a walk cut at one of its inner vertices
pub record CutAt (arcs : List Lag) (m a v b : ℕ) (es : List Lag) : Type 0 where
  pub front : List Lag
  pub back : List Lag
  pub goes : IsWalk arcs a front v
  pub comes : IsWalk arcs v back b
  pub weighs : weight es ≡ weight front +ℤ weight back
  pub front_below : AllBelow m (inner front)
  pub back_below : AllBelow m (inner back)

cut_further : (arcs : List Lag) (m a v b : ℕ) (e f : Lag) (es : List Lag) → Contains arcs e → (e.from ≡ a) → (e.to < m) →
    CutAt arcs m e.to v b (f ∷ es) → CutAt arcs m a v b (e ∷ f ∷ es)
cut_further arcs m a v b e f es here from low c =
    record {
      front = e ∷ c.front;
      back = c.back;
      goes = (here, from, c.goes);
      comes = c.comes;
      weighs = rw c.weighs (omega (arith, ints));
      front_below = longer c.front c.front_below;
      back_below = c.back_below;
    }
  where
    longer : (gs : List Lag) → AllBelow m (inner gs) → AllBelow m (inner (e ∷ gs))
    longer [] h = tt
    longer (g ∷ gs) h = (low, h)

pub cut_at : (arcs : List Lag) (m a v b : ℕ) (es : List Lag) → IsWalk arcs a es b → AllBelow m (inner es) → IsAmong v (inner es) → CutAt arcs m a v b es
cut_at arcs m a v b [] w low among = absurd among
cut_at arcs m a v b (e ∷ []) w low among = absurd among
cut_at arcs m a v b (e ∷ f ∷ es) w low among =
    elim among [
      | inl is ↦ record {
        front = e ∷ [];
        back = f ∷ es;
        goes = (w.0, w.1, sym is);
        comes = rw is w.2;
        weighs = omega (arith, ints);
        front_below = tt;
        back_below = low.1;
      }
      | inr rest ↦ cut_further arcs m a v b e f es w.0 w.1 low.0 (cut_at arcs m e.to v b (f ∷ es) w.2 low.1 rest)
    ]

-- ---- how long and how heavy a walk can be

apart_by_test : (x : ℕ) (xs : List ℕ) → (IsAmong x xs → ⊥) → AllByRecursion (λ y. eqb x y ≡ false) xs
apart_by_test x [] h = tt
apart_by_test x (y ∷ ys) h = (ne_eqb x y (λ e. h (inl e)), apart_by_test x ys (λ r. h (inr r)))

IsDistinct-simple : (xs : List ℕ) → IsSimple xs → IsDistinct eqb xs
unfolding IsDistinct
IsDistinct-simple [] h = tt
IsDistinct-simple (x ∷ xs) h = (apart_by_test x xs h.0, IsDistinct-simple xs h.1)

among_by_test : (q : ℕ) (xs : List ℕ) → list_any (eqb q) xs ≡ true → IsAmong q xs
among_by_test q [] h = cc
among_by_test q (x ∷ xs) h = elim (or_cases (eqb q x) (list_any (eqb q) xs) h) [
  | inl e ↦ inl (eqb-true q x e)
  | inr r ↦ inr (among_by_test q xs r)
]

-- a list of different numbers below m has at most m of them
pub length-le_simple : (m : ℕ) (xs : List ℕ) → IsSimple xs → AllBelow m xs → length xs ≤ m
length-le_simple m xs s h = length-le_from_distinct_below xs m (IsDistinct-simple xs s) (λ q t. AllBelow-among m q xs h (among_by_test q xs t))

pub length-le_inner : (es : List Lag) → length es ≤ length (inner es) + 1
length-le_inner [] = omega arith
length-le_inner (e ∷ []) = omega arith
length-le_inner (e ∷ f ∷ es) = omega (arith, length-le_inner (f ∷ es))

-- what a walk of so many light arcs weighs at most
abbrev pub most_weight : ℕ → ℤ
most_weight count = pos (unsigned_abs MAX_LAG_WEIGHT * count)

pub weight-within : (arcs : List Lag) (a b : ℕ) (es : List Lag) → AreLight arcs → IsWalk arcs a es b → IsWithin (most_weight (length es)) (weight es)
weight-within arcs a b [] light w = record { at_least = omega (arith, ints); at_most = omega (arith, ints) }
weight-within arcs a b (e ∷ es) light w =
    let one : IsWithin MAX_LAG_WEIGHT e.weight = light e w.0 in
    let others : IsWithin (most_weight (length es)) (weight es) = weight-within arcs e.to b es light w.2 in
    record { at_least = omega (arith, ints); at_most = omega (arith, ints) }
