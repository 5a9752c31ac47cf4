-- Time without the periods that no stretch covers. The stretch of i begins at a i and lasts for m i periods.
use Rattle.std.proofs.Common.{◌≡◌, refl, sym, ap, ◌∙◌, ℕ, zero, suc, ◌+◌, ◌-◌, ◌<◌, ◌≤◌, ◌⊎◌, inl, inr, ⊎_elim, min, Bool, true, false, ◌&&◌, cond, nat_le}
use Rattle.std.proofs.Common.{nat_lt, arith, map-id, add-zero, add-one, add-suc}
use Rattle.std.specs.List.{range_with_len, sum_by}
use Rattle.std.proofs.lemmas.Bool.{cases_lt, le-leb, lt-ltb, leb-true, ltb-true, and_parts}
use Rattle.std.proofs.lemmas.List.FromFn.{sum_by-map-range_with_len_more}

abbrev is_within : ℕ → ℕ → ℕ → Bool
is_within a m t = nat_le a t && nat_lt t (a + m)

-- 1 where one of the first n stretches covers the period t, and 0 elsewhere
abbrev pub covered : (ℕ → ℕ) → (ℕ → ℕ) → ℕ → ℕ → ℕ
covered a m zero t = 0
covered a m (suc k) t = cond (is_within (a k) (m k) t) 1 (covered a m k t)

-- how many periods before x the first n stretches cover
abbrev pub squeezed : (ℕ → ℕ) → (ℕ → ℕ) → ℕ → ℕ → ℕ
squeezed a m n zero = 0
squeezed a m n (suc x) = squeezed a m n x + covered a m n x

both_true : (s t : Bool) → s ≡ true → t ≡ true → (s && t) ≡ true
both_true true t e h = h
both_true false t e h = cc

covered_most : (a m : ℕ → ℕ) (n t : ℕ) → covered a m n t ≤ 1
covered_most a m zero t = omega arith
covered_most a m (suc k) t = elim (is_within (a k) (m k) t) as (λ b. cond b 1 (covered a m k t) ≤ 1) [ true ↦ omega arith | false ↦ covered_most a m k t ]

is_covered : (a m : ℕ → ℕ) (n i t : ℕ) → i < n → a i ≤ t → t < a i + m i → covered a m n t ≡ 1
is_covered a m zero i t lt low high = absurd (omega arith)
is_covered a m (suc k) i t lt low high =
    ⊎_elim
    (λ (early : i < k).
    let rest : covered a m k t ≡ 1 = is_covered a m k i t early low high in
    elim (is_within (a k) (m k) t) as (λ b. cond b 1 (covered a m k t) ≡ 1) [ true ↦ refl | false ↦ rest ])
    (λ (late : k ≤ i).
    let is : i ≡ k = omega arith in
    let here : is_within (a i) (m i) t ≡ true = both_true (nat_le (a i) t) (nat_lt t (a i + m i)) (le-leb (a i) t low) (lt-ltb t (a i + m i) high) in
    let at : is_within (a k) (m k) t ≡ true = sym (ap (λ j. is_within (a j) (m j) t) is) ∙ here in
    ap (λ b. cond b 1 (covered a m k t)) at)
    (cases_lt i k)

-- ---- squeezed time rises, by one a period at most, and by one in each period of a stretch

pub rises_by : (a m : ℕ → ℕ) (n x k : ℕ) → squeezed a m n x ≤ squeezed a m n (x + k)
rises_by a m n x zero = rw (add-zero x) (omega arith)
rises_by a m n x (suc k) = rw (add-suc x k) (omega (arith, rises_by a m n x k))

pub rising : (a m : ℕ → ℕ) (n x y : ℕ) → x ≤ y → squeezed a m n x ≤ squeezed a m n y
rising a m n x y le =
    let is : x + (y - x) ≡ y = omega arith in
    let h : squeezed a m n x ≤ squeezed a m n (x + (y - x)) = rises_by a m n x (y - x) in
    rw is at h

pub slow : (a m : ℕ → ℕ) (n x k : ℕ) → squeezed a m n (x + k) ≤ squeezed a m n x + k
slow a m n x zero = rw (add-zero x) (omega arith)
slow a m n x (suc k) = rw (add-suc x k) (omega (arith, slow a m n x k, covered_most a m n (x + k)))

pub exact : (a m : ℕ → ℕ) (n i k : ℕ) → i < n → k ≤ m i → squeezed a m n (a i + k) ≡ squeezed a m n (a i) + k
exact a m n i zero lt le = rw (add-zero (a i)) (omega arith)
exact a m n i (suc k) lt le =
    let before : squeezed a m n (a i + k) ≡ squeezed a m n (a i) + k = exact a m n i k lt (omega arith) in
    let one : covered a m n (a i + k) ≡ 1 = is_covered a m n i (a i + k) lt (omega arith) (omega arith) in
    rw (add-suc (a i) k) (omega arith)

-- ---- no more periods are covered than the stretches have

-- one stretch more covers at most as many more as it has before x
one_more : (a m : ℕ → ℕ) (k x : ℕ) → squeezed a m (suc k) x ≤ squeezed a m k x + min (m k) (x - a k)
one_more a m k zero = omega arith
one_more a m k (suc x) =
    step_by (one_more a m k x) (is_within (a k) (m k) x) refl
  where
    step_by : squeezed a m (suc k) x ≤ squeezed a m k x + min (m k) (x - a k) → (b : Bool) → is_within (a k) (m k) x ≡ b
        → squeezed a m (suc k) x + cond b 1 (covered a m k x) ≤ squeezed a m k x + covered a m k x + min (m k)
        (suc x - a k)
    step_by before true e =
        let parts = and_parts (nat_le (a k) x) (nat_lt x (a k + m k)) e in
        let low : a k ≤ x = leb-true (a k) x parts.0 in
        let high : x < a k + m k = ltb-true x (a k + m k) parts.1 in
        omega arith
    step_by before false e = omega arith

none_covered : (a m : ℕ → ℕ) (x : ℕ) → squeezed a m 0 x ≡ 0
none_covered a m zero = refl
none_covered a m (suc x) = omega (arith, none_covered a m x)

pub sum_more : (m : ℕ → ℕ) (n : ℕ) → sum_by m (range_with_len 0 (n + 1)) ≡ sum_by m (range_with_len 0 n) + m n
sum_more m n = rw (map-id (range_with_len 0 (n + 1)), map-id (range_with_len 0 n)) at (sum_by-map-range_with_len_more m (λ i. i) 0 n n (omega arith))

pub squeezed-le-sum_by : (a m : ℕ → ℕ) (n x : ℕ) → squeezed a m n x ≤ sum_by m (range_with_len 0 n)
squeezed-le-sum_by a m zero x = omega (arith, none_covered a m x)
squeezed-le-sum_by a m (suc k) x =
    let more : sum_by m (range_with_len 0 (suc k)) ≡ sum_by m (range_with_len 0 k) + m k = rw (add-one k) at (sum_more m k) in
    omega (arith, one_more a m k x, squeezed-le-sum_by a m k x)

-- ---- a covered period for each unit of squeezed time

-- a period at which squeezed time goes on from t
pub record IsPeriodOf (a m : ℕ → ℕ) (n t period : ℕ) : Type 0 where
  pub reached : squeezed a m n period ≤ t
  pub passed : t < squeezed a m n (suc period)

pub period_of : (a m : ℕ → ℕ) (n t x : ℕ) → (squeezed a m n x ≤ t) ⊎ ((period : ℕ) × IsPeriodOf a m n t period)
period_of a m n t zero = inl (omega arith)
period_of a m n t (suc x) =
    ⊎_elim
    (λ (past : t < squeezed a m n (suc x)).
    ⊎_elim (λ (low : squeezed a m n x ≤ t). inr (x, record { reached = low; passed = past })) (λ found. inr found) (period_of a m n t x))
    (λ (low : squeezed a m n (suc x) ≤ t). inl low)
    (cases_lt t (squeezed a m n (suc x)))

-- what runs for k periods of its stretch, and at t in squeezed time, runs at that period
pub runs_then : (a m : ℕ → ℕ) (n t period i k : ℕ) → IsPeriodOf a m n t period → i < n → k ≤ m i
    → squeezed a m n (a i) ≤ t → t < squeezed a m n (a i) + k → (a i ≤ period) × (period < a i + k)
runs_then a m n t period i k at lt le from to = (
  ⊎_elim
      (λ (late : period < a i). absurd (omega (arith, at.passed, rising a m n (suc period) (a i) (omega arith))))
      (λ (begun : a i ≤ period). begun)
      (cases_lt period (a i)),
  ⊎_elim
      (λ (early : period < a i + k). early)
      (λ (over : a i + k ≤ period). absurd (omega (arith, at.reached, exact a m n i k lt le, rising a m n (a i + k) period over)))
      (cases_lt period (a i + k)),
)

-- after all stretches
abbrev pub top : (ℕ → ℕ) → (ℕ → ℕ) → ℕ → ℕ
top a m zero = 0
top a m (suc k) = top a m k + (a k + m k)

below_top : (a m : ℕ → ℕ) (n i : ℕ) → i < n → a i + m i ≤ top a m n
below_top a m zero i lt = absurd (omega arith)
below_top a m (suc k) i lt =
    ⊎_elim
    (λ (early : i < k). omega (arith, below_top a m k i early))
    (λ (late : k ≤ i). let is : i ≡ k = omega arith in let same : a i + m i ≡ a k + m k = ap (λ j. a j + m j) is in omega arith)
    (cases_lt i k)

-- nothing runs after them
pub none_runs : (a m : ℕ → ℕ) (n t i k : ℕ) → squeezed a m n (top a m n) ≤ t → i < n → k ≤ m i → t < squeezed a m n (a i) + k → ⊥
none_runs a m n t i k past lt le to =
    omega (arith, exact a m n i k lt le, rising a m n (a i + k) (top a m n) (omega (arith, below_top a m n i lt)))
