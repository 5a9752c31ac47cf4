-- Spans of time of which no two overlap, all in one window: together they are no longer than it is.
use Rattle.std.proofs.Common.{◌≡◌, refl, ap, sym, ◌∙◌, ℕ, zero, suc, ◌+◌, ◌-◌, ◌*◌, ◌<◌, ◌≤◌, cond, add-zero, add-suc, ⊎_elim, ◌⊎◌, arith, ℤ, pos, negsuc, ◌+ℤ◌, ◌≤ℤ◌, ◌<ℤ◌, List, [], ◌∷◌, get_or, length}
use Rattle.std.proofs.Common.{Bool, true, false, ◌&&◌, int_le, int_lt}
use Rattle.std.specs.List.{All, AllPairs, sum_by}
use Rattle.std.proofs.lemmas.Int.{ints}
use Rattle.std.proofs.lemmas.List.Elements.{All-head, All-tail, All-weaker}
use Rattle.std.proofs.lemmas.List.Sums.{sum_by-cons}
use Rattle.bounds.proofs.Tasks.{sum_by-le-each}
use Rattle.forbidden_sets.proofs.Apart.{runs_when}

pub gap : (x y : ℤ) → x ≤ℤ y → (m : ℕ) × (y ≡ x +ℤ pos m)
gap (pos a) (pos b) h = (b - a, omega (arith, ints))
gap (pos a) (negsuc b) h = absurd (omega (arith, ints))
gap (negsuc a) (pos b) h = (b + a + 1, omega (arith, ints))
gap (negsuc a) (negsuc b) h = (a - b, omega (arith, ints))

-- ---- sums over units of time

-- f 0 + .. + f (m - 1)
units : (ℕ → ℕ) → ℕ → ℕ
units f zero = 0
units f (suc m) = units f m + f m

units-const : (f : ℕ → ℕ) (most m : ℕ) → ((u : ℕ) → f u ≤ most) → units f m ≤ m * most
unfolding units
units-const f most zero h = omega arith
units-const f most (suc m) h = omega (arith, units-const f most m h, h m)

units-more : (f : ℕ → ℕ) (m k : ℕ) → units f m ≤ units f (m + k)
unfolding units
units-more f m zero = rw (add-zero m) (omega arith)
units-more f m (suc k) = rw (add-suc m k) (omega (arith, units-more f m k))

units-zero : (m : ℕ) → units (λ _. 0) m ≡ 0
unfolding units
units-zero zero = refl
units-zero (suc m) = omega (arith, units-zero m)

units-plus : (f g h : ℕ → ℕ) (m : ℕ) → ((u : ℕ) → h u ≡ f u + g u) → units h m ≡ units f m + units g m
unfolding units
units-plus f g h zero e = refl
units-plus f g h (suc m) e = omega (arith, units-plus f g h m e, e m)

units_from : (f : ℕ → ℕ) (s d : ℕ) → ((u : ℕ) → s ≤ u → u < s + d → f u ≡ 1) → d ≤ units f (s + d)
unfolding units
units_from f s zero h = omega arith
units_from f s (suc d) h =
    let rest : d ≤ units f (s + d) = units_from f s d (λ u l k. h u l (omega arith)) in
    let last : f (s + d) ≡ 1 = h (s + d) (omega arith) (omega arith) in
    rw (add-suc s d) (omega (arith, rest, last))

-- each of d units from s on counts one
units_span : (f : ℕ → ℕ) (s d m : ℕ) → s + d ≤ m → ((u : ℕ) → s ≤ u → u < s + d → f u ≡ 1) → d ≤ units f m
units_span f s d m within h =
    let at : s + d + (m - (s + d)) ≡ m = omega arith in
    let longer : units f (s + d) ≤ units f m = rw at at (units-more f (s + d) (m - (s + d))) in
    omega (arith, units_from f s d h, longer)

-- ---- of which no two pass

abbrev NotBoth : {A : Type 0} → (A → Bool) → A → A → Type 0
NotBoth f i j = f i ≡ true → f j ≡ true → ⊥

later_pairs : {A : Type 0} (R : A → A → Type 0) (x : A) (xs : List A) → AllPairs R (x ∷ xs) → AllPairs R xs
later_pairs R x xs h i j d lt within = h (suc i) (suc j) d (omega arith) (omega arith)

with_first : {A : Type 0} (R : A → A → Type 0) (x : A) (xs : List A) → AllPairs R (x ∷ xs) → All (R x) xs
with_first R x xs h k d l = h 0 (suc k) d (omega arith) (omega arith)

abbrev one_if : Bool → ℕ
one_if b = cond b 1 0

none_passes : {A : Type 0} (f : A → Bool) (xs : List A) → All (λ i. f i ≡ true → ⊥) xs → sum_by (λ i. one_if (f i)) xs ≡ 0
none_passes f [] h = refl
none_passes f (x ∷ xs) h = omega (
  arith,
  sum_by-cons (λ i. one_if (f i)) x xs,
  none_passes f xs (All-tail (λ i. f i ≡ true → ⊥) x xs h),
  zero_at (f x) (All-head (λ i. f i ≡ true → ⊥) x xs h),
)
  where
    zero_at : (b : Bool) → (b ≡ true → ⊥) → one_if b ≡ 0
    zero_at true never = absurd (never refl)
    zero_at false never = refl

-- where no two pass, at most one does
one_passes : {A : Type 0} (f : A → Bool) (xs : List A) → AllPairs (NotBoth f) xs → sum_by (λ i. one_if (f i)) xs ≤ 1
one_passes f [] h = omega arith
one_passes f (x ∷ xs) h = by_first (f x) refl (one_passes f xs (later_pairs (NotBoth f) x xs h))
  where
    by_first : (b : Bool) → f x ≡ b → sum_by (λ i. one_if (f i)) xs ≤ 1 → sum_by (λ i. one_if (f i)) (x ∷ xs) ≤ 1
    by_first true passes rest =
        let others = none_passes f xs (λ k d l. with_first (NotBoth f) x xs h k d l passes) in
        let here : one_if (f x) ≡ 1 = rw passes refl in
        omega (arith, sum_by-cons (λ i. one_if (f i)) x xs, others, here)
    by_first false fails rest =
        let here : one_if (f x) ≡ 0 = rw fails refl in
        omega (arith, sum_by-cons (λ i. one_if (f i)) x xs, rest, here)

-- units of all spans, and spans of all units
over_sum : {A : Type 0} (g : ℕ → A → ℕ) (m : ℕ) (xs : List A) → units (λ u. sum_by (g u) xs) m ≡ sum_by (λ a. units (λ u. g u a) m) xs
over_sum g m [] = units-zero m
over_sum g m (x ∷ xs) =
    units-plus (λ u. g u x) (λ u. sum_by (g u) xs) (λ u. sum_by (g u) (x ∷ xs)) m (λ u. sum_by-cons (g u) x xs)
    ∙ (ap (λ (n : ℕ). units (λ u. g u x) m + n) (over_sum g m xs) ∙ sym (sum_by-cons (λ a. units (λ u. g u a) m) x xs))

-- ---- spans

-- whether the span from b on that is so long has this unit
abbrev covers : ℤ → ℕ → ℤ → Bool
covers b n u = int_le b u && int_lt u (b +ℤ pos n)

begins_when : (b : ℤ) (n : ℕ) (u : ℤ) → covers b n u ≡ true → b ≤ℤ u
begins_when b n u h = grind (arith, ints)

ends_when : (b : ℤ) (n : ℕ) (u : ℤ) → covers b n u ≡ true → u <ℤ (b +ℤ pos n)
ends_when b n u h = grind (arith, ints)

-- a span within the window has each of its units there
units_there : (b : ℤ) (n : ℕ) (from : ℤ) (m : ℕ) → from ≤ℤ b → (b +ℤ pos n) ≤ℤ (from +ℤ pos m)
    → n ≤ units (λ u. one_if (covers b n (from +ℤ pos u))) m
units_there b n from m low high = from_gap (gap from b low)
  where
    from_gap : (g : ℕ) × (b ≡ from +ℤ pos g) → n ≤ units (λ u. one_if (covers b n (from +ℤ pos u))) m
    from_gap (g, at) =
        units_span (λ u. one_if (covers b n (from +ℤ pos u))) g n m (omega (arith, ints))
        (λ u l h. ap one_if (runs_when b (from +ℤ pos u) (b +ℤ pos n) (omega (arith, ints)) (omega (arith, ints))))

-- the first ends before the second begins
abbrev pub EndsBefore : {A : Type 0} → (A → ℤ) → (A → ℕ) → A → A → Type 0
EndsBefore begin size a b = (begin a +ℤ pos (size a)) ≤ℤ begin b

abbrev pub AreApart : {A : Type 0} → (A → ℤ) → (A → ℕ) → A → A → Type 0
AreApart begin size a b = EndsBefore begin size a b ⊎ EndsBefore begin size b a

pub record IsInside {A : Type 0} (begin : A → ℤ) (size : A → ℕ) (from to : ℤ) (a : A) : Type 0 where
  pub late : from ≤ℤ begin a
  pub early : (begin a +ℤ pos (size a)) ≤ℤ to

apart_units : {A : Type 0} (begin : A → ℤ) (size : A → ℕ) (u : ℤ) (a b : A) → AreApart begin size a b
    → NotBoth (λ x. covers (begin x) (size x) u) a b
apart_units begin size u a b apart has_a has_b =
    let late_a : begin a ≤ℤ u = begins_when (begin a) (size a) u has_a in
    let late_b : begin b ≤ℤ u = begins_when (begin b) (size b) u has_b in
    let early_a : u <ℤ (begin a +ℤ pos (size a)) = ends_when (begin a) (size a) u has_a in
    let early_b : u <ℤ (begin b +ℤ pos (size b)) = ends_when (begin b) (size b) u has_b in
    ⊎_elim
    (λ (first : (begin a +ℤ pos (size a)) ≤ℤ begin b). absurd (omega (arith, ints, first, late_b, early_a)))
    (λ (second : (begin b +ℤ pos (size b)) ≤ℤ begin a). absurd (omega (arith, ints, second, late_a, early_b)))
    apart

-- in so many units
in_units : {A : Type 0} (begin : A → ℤ) (size : A → ℕ) (from to : ℤ) (m : ℕ) (xs : List A) → to ≡ from +ℤ pos m
    → All (IsInside begin size from to) xs → AllPairs (AreApart begin size) xs → sum_by size xs ≤ m
in_units {A = A} begin size from to m xs window inside apart =
    let each : sum_by size xs ≤ sum_by (λ a. units (λ u. one_if (covers (begin a) (size a) (from +ℤ pos u))) m) xs =
    sum_by-le-each size (λ a. units (λ u. one_if (covers (begin a) (size a) (from +ℤ pos u))) m) xs
    (All-weaker (IsInside begin size from to)
    (λ a. size a ≤ units (λ u. one_if (covers (begin a) (size a) (from +ℤ pos u))) m)
    (λ a within. there a within) xs inside) in
    let counted = over_sum (λ (u : ℕ) a. one_if (covers (begin a) (size a) (from +ℤ pos u))) m xs in
    let most : units (λ u. sum_by (λ a. one_if (covers (begin a) (size a) (from +ℤ pos u))) xs) m ≤ m * 1 =
    units-const (λ u. sum_by (λ a. one_if (covers (begin a) (size a) (from +ℤ pos u))) xs) 1 m (λ u.
    one_passes (λ a. covers (begin a) (size a) (from +ℤ pos u)) xs (λ i j d lt l.
    apart_units begin size (from +ℤ pos u) (get_or xs i d) (get_or xs j d) (apart i j d lt l))) in
    omega (arith, each, counted, most)
  where
    there : (a : A) → IsInside begin size from to a → size a ≤ units (λ u. one_if (covers (begin a) (size a) (from +ℤ pos u))) m
    there a within = units_there (begin a) (size a) from m within.late (omega (arith, ints, within.early, window))

pub packed : {A : Type 0} (begin : A → ℤ) (size : A → ℕ) (from to : ℤ) (xs : List A) → 0 < length xs
    → All (IsInside begin size from to) xs → AllPairs (AreApart begin size) xs → to <ℤ (from +ℤ pos (sum_by size xs)) → ⊥
packed begin size from to [] some inside apart long = absurd (omega arith)
packed begin size from to (x ∷ xs) some inside apart long =
    let first = All-head (IsInside begin size from to) x xs inside in
    let low : from ≤ℤ begin x = first.late in
    let high : (begin x +ℤ pos (size x)) ≤ℤ to = first.early in
    by_gap (gap from to (omega (arith, ints, low, high)))
  where
    by_gap : (m : ℕ) × (to ≡ from +ℤ pos m) → ⊥
    by_gap (m, window) =
        let most : sum_by size (x ∷ xs) ≤ m = in_units begin size from to m (x ∷ xs) window inside apart in
        omega (arith, ints, most, window, long)
