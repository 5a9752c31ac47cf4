-- Two activities that can't run at the same time don't overlap.
use Rattle.std.proofs.Common.{◌≡◌, ℕ, zero, suc, ◌+◌, ◌<◌, ◌≤◌, Bool, true, false, cond, List, [], ◌∷◌, length, get_or, ap, ◌∙◌, ⊎_elim, arith, add-one, ◌&&◌}
use Rattle.std.proofs.Common.{ℤ, pos, ◌+ℤ◌, ◌≤ℤ◌, ◌<ℤ◌, int_le, int_lt}
use Rattle.std.specs.List.{All, Contains, filter, sum_by, range_with_len}
use Rattle.std.specs.List.Sorted.{IsStrictlyIncreasing}
use Rattle.std.proofs.lemmas.Bool.{cases_lt}
use Rattle.std.proofs.lemmas.List.Sums.{sum_by-cons}
use Rattle.std.proofs.lemmas.List.Elements.{All-head, All-tail, All-nil, All-cons, Contains-append_right, Contains-get_or}
use Rattle.std.proofs.lemmas.Int.{ints, by_lt_z}
use Rattle.network.specs.declared.parts.Pair.{Pair}
use Rattle.network.specs.Schedule.{IsForbidden, start, is_running, IsFeasible}
use Rattle.network.specs.Problem.{Problem, activity_count, resource_count, duration, demand}
use Rattle.forbidden_sets.specs.Incompatible.{AreIncompatible}

-- ---- Rising lists of numbers.

pub rising_tail : (x : ℕ) (xs : List ℕ) → IsStrictlyIncreasing (x ∷ xs) → IsStrictlyIncreasing xs
rising_tail x xs h k l =
    let step = h (suc k) (omega arith) in
    rw (add-one k) (rw (add-one (suc k)) at step)

rising_head : (x y : ℕ) (xs : List ℕ) → IsStrictlyIncreasing (x ∷ y ∷ xs) → x < y
rising_head x y xs h = h 0 (omega arith)

abbrev pub BeginsFrom : ℕ → List ℕ → Type 0
BeginsFrom a [] = Unit {0}
BeginsFrom a (x ∷ xs) = a ≤ x

tail_begins : (a x : ℕ) (xs : List ℕ) → a ≤ x → IsStrictlyIncreasing (x ∷ xs) → BeginsFrom (a + 1) xs
tail_begins a x [] h up = tt
tail_begins a x (y ∷ ys) h up = omega (arith, rising_head x y ys up)

-- rising numbers that pass the test are among those that a filter keeps
pub rising_sum : (r : ℕ → ℕ) (p : ℕ → Bool) (a n : ℕ) (xs : List ℕ) → BeginsFrom a xs → IsStrictlyIncreasing xs
    → All (λ i. i < a + n) xs → All (λ i. p i ≡ true) xs → sum_by r xs ≤ sum_by r (filter p (range_with_len a n))
rising_sum r p a n [] from up below pass = omega arith
rising_sum r p a zero (x ∷ xs) from up below pass = absurd (omega (arith, All-head (λ i. i < a + 0) x xs below))
rising_sum r p a (suc n) (x ∷ xs) from up below pass =
    ⊎_elim
    (λ (later : a < x).
    let rest : sum_by r (x ∷ xs) ≤ sum_by r (filter p (range_with_len (a + 1) n)) =
    rising_sum r p (a + 1) n (x ∷ xs) (omega arith) up (λ k d l. omega (arith, below k d l)) pass in
    omega (arith, rest, cons_more (p a) a (filter p (range_with_len (a + 1) n))))
    (λ (here : x ≤ a).
    let same : a ≡ x = omega arith in
    let passes : p a ≡ true = ap p same ∙ All-head (λ i. p i ≡ true) x xs pass in
    let rest : sum_by r xs ≤ sum_by r (filter p (range_with_len (a + 1) n)) =
    rising_sum r p (a + 1) n xs (tail_begins a x xs from up) (rising_tail x xs up)
    (λ k d l. omega (arith, All-tail (λ i. i < a + suc n) x xs below k d l)) (All-tail (λ i. p i ≡ true) x xs pass)
    in
    rw passes (omega (arith, rest, ap r same, sum_by-cons r x xs, sum_by-cons r a (filter p (range_with_len (a + 1) n)))))
    (cases_lt a x)
  where
    cons_more : (b : Bool) (a : ℕ) (ys : List ℕ) → sum_by r ys ≤ sum_by r (cond b (a ∷ ys) ys)
    cons_more true a ys = omega (arith, sum_by-cons r a ys)
    cons_more false a ys = omega arith

-- rising numbers from a on and below a + n are at most n
pub rising_length : (a n : ℕ) (xs : List ℕ) → BeginsFrom a xs → IsStrictlyIncreasing xs → All (λ i. i < a + n) xs → length xs ≤ n
rising_length a n [] from up below = omega arith
rising_length a zero (x ∷ xs) from up below = absurd (omega (arith, All-head (λ i. i < a + 0) x xs below))
rising_length a (suc n) (x ∷ xs) from up below =
    let rest : length xs ≤ n = rising_length (a + 1) n xs (tail_begins a x xs from up) (rising_tail x xs up)
    (λ k d l. omega (arith, All-tail (λ i. i < a + suc n) x xs below k d l)) in
    omega arith

pub runs_when : (s u e : ℤ) → s ≤ℤ u → u <ℤ e → (int_le s u && int_lt u e) ≡ true
runs_when s u e h k = grind (arith, ints)

-- ---- Activities that are forbidden together don't all run at one time.

begins : (xs : List ℕ) → BeginsFrom 0 xs
begins [] = tt
begins (x ∷ xs) = omega arith

pub not_all_run : (p : Problem) (s : List ℤ) (k : ℕ) (set : List ℕ) (u : ℤ) → IsFeasible p s → k < resource_count p
    → IsStrictlyIncreasing set → All (λ i. i < activity_count p) set → IsForbidden p k set →
    All (λ i. start s i ≤ℤ u) set → All (λ i. u <ℤ (start s i +ℤ duration p i)) set → ⊥
not_all_run p s k set u feasible in_range rising named forbidden begun last =
    let run : All (λ i. is_running p s u i ≡ true) set = λ j d l.
    runs_when (start s (get_or set j d)) u (start s (get_or set j d) +ℤ duration p (get_or set j d)) (begun j d l)
    (last j d l) in
    let used = rising_sum (demand p k) (is_running p s u) 0 (activity_count p) set (begins set) rising (λ j d l. omega (arith, named j d l)) run in
    let fits = feasible.within u k in_range in
    omega (arith, used, fits, forbidden)

-- m is of the set, and none of the set starts after it
pub record StartsLast (s : List ℤ) (set : List ℕ) (m : ℕ) : Type 0 where
  pub member : Contains set m
  pub last : All (λ i. start s i ≤ℤ start s m) set

pub starts_last : (s : List ℤ) (x : ℕ) (xs : List ℕ) → (m : ℕ) × StartsLast s (x ∷ xs) m
starts_last s x [] = (
  x,
  record {
    member = Contains-get_or (x ∷ []) 0 x (omega arith);
    last =
        All-cons (λ i. start s i ≤ℤ start s x) x [] (omega (arith, ints)) (All-nil (λ i. start s i ≤ℤ start s x));
  },
)
starts_last s x (y ∷ ys) = longer (starts_last s y ys)
  where
    longer : (m : ℕ) × StartsLast s (y ∷ ys) m → (m : ℕ) × StartsLast s (x ∷ y ∷ ys) m
    longer (m, so_far) =
        by_lt_z (start s x) (start s m)
        (λ less. (
          m,
          record {
            member = Contains-append_right (x ∷ []) (y ∷ ys) m so_far.member;
            last =
                All-cons (λ i. start s i ≤ℤ start s m) x (y ∷ ys) (omega (arith, ints)) so_far.last;
          },
        ))
        (λ more. (
          x,
          record {
            member = Contains-get_or (x ∷ y ∷ ys) 0 x (omega arith);
            last =
                All-cons (λ i. start s i ≤ℤ start s x) x (y ∷ ys) (omega (arith, ints))
                (λ k d l. omega (arith, ints, so_far.last k d l, more));
          },
        ))

-- ---- Two of them.

two_rise : (x y : ℕ) → x < y → IsStrictlyIncreasing (x ∷ y ∷ [])
two_rise x y h zero l = h
two_rise x y h (suc k) l = absurd (omega arith)

-- two activities, the lesser first, that ask for too much of a resource
record Exceed (p : Problem) (k x y : ℕ) : Type 0 where
  in_range : k < resource_count p
  order : x < y
  named : y < activity_count p
  exceeds : IsForbidden p k (x ∷ y ∷ [])

-- they don't both run at u
overlap_at : (p : Problem) (s : List ℤ) (k x y : ℕ) (u : ℤ) → IsFeasible p s → Exceed p k x y → start s x ≤ℤ u
    → u <ℤ (start s x +ℤ duration p x) → start s y ≤ℤ u → u <ℤ (start s y +ℤ duration p y) → ⊥
overlap_at p s k x y u feasible too sx ex sy ey =
    let order : x < y = too.order in
    let named : y < activity_count p = too.named in
    not_all_run p s k (x ∷ y ∷ []) u feasible too.in_range (two_rise x y order)
    (both (λ i. i < activity_count p) (omega arith) named) too.exceeds (both (λ i. start s i ≤ℤ u) sx sy)
    (both (λ i. u <ℤ (start s i +ℤ duration p i)) ex ey)
  where
    both : (P : ℕ → Type 0) → P x → P y → All P (x ∷ y ∷ [])
    both P a b = All-cons P x (y ∷ []) a (All-cons P y [] b (All-nil P))

overlap : (p : Problem) (s : List ℤ) (k x y : ℕ) → IsFeasible p s → Exceed p k x y → pos 0 <ℤ duration p x
    → pos 0 <ℤ duration p y → start s x <ℤ (start s y +ℤ duration p y) → start s y <ℤ (start s x +ℤ duration p x) → ⊥
overlap p s k x y feasible too long_x long_y hx hy =
    by_lt_z (start s x) (start s y)
    (λ later. overlap_at p s k x y (start s y) feasible too (omega (arith, ints)) hy (omega (arith, ints)) (omega (arith, ints)))
    (λ earlier. overlap_at p s k x y (start s x) feasible too (omega (arith, ints)) (omega (arith, ints)) (omega (arith, ints)) hx)

-- incompatible activities don't overlap
pub apart : (p : Problem) (s : List ℤ) (pair : Pair) → IsFeasible p s → AreIncompatible p pair
    → start s pair.before <ℤ (start s pair.after +ℤ duration p pair.after)
    → start s pair.after <ℤ (start s pair.before +ℤ duration p pair.before) → ⊥
apart p s pair feasible both late early =
    ⊎_elim
    (λ (less : pair.before < pair.after).
    overlap p s both.exceed.resource pair.before pair.after feasible
    (record {
      in_range = both.exceed.in_range;
      order = less;
      named = both.second_named;
      exceeds =
          both.exceed.forbidden;
    }) both.first_takes_time both.second_takes_time late early)
    (λ (more : pair.after ≤ pair.before).
    let order : pair.after < pair.before = omega (arith, both.differ) in
    overlap p s both.exceed.resource pair.after pair.before feasible
    (record { in_range = both.exceed.in_range; order = order; named = both.first_named; exceeds = swapped })
    both.second_takes_time both.first_takes_time early late)
    (cases_lt pair.before pair.after)
  where
    swapped : IsForbidden p both.exceed.resource (pair.after ∷ pair.before ∷ [])
    swapped = let exceeds = both.exceed.forbidden in omega (arith, exceeds)
