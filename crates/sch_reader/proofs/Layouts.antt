-- What numbers lead a layout to, and what reading a layout gives.
use Rattle.std.proofs.Common.{◌≡◌, true, List, [], ◌∷◌, ◌++◌, ℤ, pos, Some, refl, sym, ap, subst, arith}
use Rattle.sch_reader.specs.declared.place.Place.TheVariants as places
use Rattle.sch_reader.specs.Layout.{Layout, done, place, fits, ◌>>=◌, Place}
use Rattle.sch_reader.specs.Text.{place_after}

-- the numbers lead from the first layout to the second
abbrev pub Reaches : {A : Type 0} → Layout A → List ℤ → Layout A → Type 0
Reaches l [] m = l ≡ m
Reaches (done x) (z ∷ zs) m = ⊥
Reaches (place p next) (z ∷ zs) m = (fits p z ≡ true) × Reaches (next z) zs m

pub Reaches-trans : {A : Type 0} (l m k : Layout A) (xs ys : List ℤ) → Reaches l xs m → Reaches m ys k → Reaches l (xs ++ ys) k
Reaches-trans l m k [] ys h g = subst (λ (j : Layout _). Reaches j ys k) (sym h) g
Reaches-trans (done x) m k (z ∷ xs) ys h g = absurd h
Reaches-trans (place p next) m k (z ∷ xs) ys h g = (h.0, Reaches-trans (next z) m k xs ys h.1 g)

-- what a front leads to goes on
pub Reaches-rest : {A : Type 0} (l m k : Layout A) (xs ys : List ℤ) → Reaches l xs m → Reaches l (xs ++ ys) k → Reaches m ys k
Reaches-rest l m k [] ys h g = subst (λ (j : Layout _). Reaches j ys k) h g
Reaches-rest (done x) m k (z ∷ xs) ys h g = absurd h
Reaches-rest (place p next) m k (z ∷ xs) ys h g = Reaches-rest (next z) m k xs ys h.1 g.1

pub Reaches-bind : {A B : Type 0} (l : Layout A) (f : A → Layout B) (m : Layout B) (x : A) (xs ys : List ℤ)
    → Reaches l xs (done x) → Reaches (f x) ys m → Reaches (l >>= f) (xs ++ ys) m
Reaches-bind l f m x [] ys h g = subst (λ (j : Layout _). Reaches (j >>= f) ys m) (sym h) g
Reaches-bind (done y) f m x (z ∷ xs) ys h g = absurd h
Reaches-bind (place p next) f m x (z ∷ xs) ys h g = (h.0, Reaches-bind (next z) f m x xs ys h.1 g)

-- the two parts of what leads through one layout and then another
pub record Through {A B : Type 0} (l : Layout A) (f : A → Layout B) (zs : List ℤ) (y : B) : Type 0 where
  pub first : List ℤ
  pub second : List ℤ
  pub value : A
  pub parts : zs ≡ first ++ second
  pub to_value : Reaches l first (done value)
  pub after : Reaches (f value) second (done y)

pub through : {A B : Type 0} (l : Layout A) (f : A → Layout B) (zs : List ℤ) (y : B) → Reaches (l >>= f) zs (done y) → Through l f zs y
through (done x) f zs y h = record { first = []; second = zs; value = x; parts = refl; to_value = refl; after = h }
through (place p next) f [] y h = absurd cc
through (place p next) f (z ∷ zs) y h =
    let t = through (next z) f zs y h.1 in
    record {
      first = z ∷ t.first;
      second = t.second;
      value = t.value;
      parts = ap (λ (r : List ℤ). z ∷ r) t.parts;
      to_value = (h.0, t.to_value);
      after = t.after;
    }

-- a number that fits
filler : Place → ℤ
filler (places.Id row id) = pos id
filler (places.Mode row) = pos 1
filler _ = pos 0

filler-fits : (p : Place) → fits p (filler p) ≡ true
unfolding filler
filler-fits (places.Id row id) = grind arith
filler-fits (places.Count left) = grind arith
filler-fits (places.Successor row last) = grind arith
filler-fits p = refl

-- every layout can be gone through to its end
pub record Completed {A : Type 0} (l : Layout A) : Type 0 where
  pub numbers : List ℤ
  pub value : A
  pub leads : Reaches l numbers (done value)

pub completed : {A : Type 0} (l : Layout A) → Completed l
completed (done x) = record { numbers = []; value = x; leads = refl }
completed (place p next) =
    let r = completed (next (filler p)) in
    record { numbers = filler p ∷ r.numbers; value = r.value; leads = (filler-fits p, r.leads) }

pub place_after_is : {A : Type 0} (l : Layout A) (p : Place) (next : ℤ → Layout A) (zs : List ℤ) → Reaches l zs (place p next) → place_after l zs ≡ Some p
place_after_is l p next [] h = ap (λ (j : Layout _). place_after j []) h
place_after_is (done x) p next (z ∷ zs) h = absurd h
place_after_is (place q more) p next (z ∷ zs) h = place_after_is (more z) p next zs h.1
