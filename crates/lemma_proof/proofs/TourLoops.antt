-- What loops over intervals know.
use Rattle.std.proofs.Common.{◌≡◌, refl, sym, ◌∙◌, ℕ, zero, suc, ◌==◌, ◌+◌, ◌-◌, ◌<◌, ◌≤◌, ⊎_elim, arith, ℤ, pos, ◌+ℤ◌, ◌-ℤ◌, ◌≤ℤ◌, ◌<ℤ◌, Bool, true, false, IsTrue, ◌↔◌, List, get_or, length, take}
use Rattle.std.specs.Int.Signed.{lt_z}
use Rattle.std.specs.List.{sum_by}
use Rattle.std.proofs.lemmas.Bool.{cases_lt, eqb-true, false≢true}
use Rattle.std.proofs.lemmas.Int.{ints}
use Rattle.std.proofs.lemmas.List.{get_or_default, take_all}
use Rattle.std.proofs.lemmas.List.Sums.{sum_by-take-le, sum_by_more}
use Rattle.lemma_proof.specs.declared.line.Interval.{Interval}
use Rattle.lemma_proof.specs.Tours.{Rise}
use Rattle.lemma_proof.proofs.Loops.{never}

abbrev pub zero_interval : Interval
zero_interval = record { activity = 0; at = pos 0; length = 0 }

-- ---- some, or none

pub some_there : (n : ℕ) (b : Bool) → b ≡ (n == 0) → b ≡ false → 0 < n
some_there zero b is e = absurd (false≢true (sym e ∙ is))
some_there (suc n) b is e = omega arith

pub none_there : (n : ℕ) (b : Bool) → b ≡ (n == 0) → b ≡ true → ¬ (0 < n)
none_there n b is e lt = let none : n ≡ 0 = eqb-true n 0 (sym is ∙ e) in omega arith

-- ---- activities that rise

-- those of the first n do
abbrev pub RiseBefore : List Interval → ℕ → Type 0
RiseBefore xs n = (k : ℕ) (d : Interval) → k + 1 < n → (get_or xs k d).activity < (get_or xs (k + 1) d).activity

pub rise_more : (xs : List Interval) (n : ℕ) (d : Interval) → 0 < n → n < length xs → RiseBefore xs n
    → (get_or xs (n - 1) d).activity < (get_or xs n d).activity → RiseBefore xs (n + 1)
rise_more xs n d some lt before less k e low =
    ⊎_elim
    (λ (early : k + 1 < n). before k e early)
    (λ (late : n ≤ k + 1).
    let is : n ≡ k + 1 = omega arith in
    let first : n - 1 ≡ k = omega arith in
    let at : (get_or xs k d).activity < (get_or xs (k + 1) d).activity = rw (first, is) at less in
    rw (get_or_default xs k e d (omega arith), get_or_default xs (k + 1) e d (omega arith)) at)
    (cases_lt (k + 1) n)

pub rise_fails : (xs : List Interval) (n : ℕ) (d : Interval) → 0 < n → n < length xs
    → (get_or xs n d).activity ≤ (get_or xs (n - 1) d).activity → IsTrue false ↔ Rise xs
rise_fails xs n d some lt falls = never (λ (rise : Rise xs).
    let is : n - 1 + 1 ≡ n = omega arith in
    let less : (get_or xs (n - 1) d).activity < (get_or xs (n - 1 + 1) d).activity = rise (n - 1) d (omega arith) in
    let here : (get_or xs (n - 1) d).activity < (get_or xs n d).activity = rw is at less in
    omega arith)

-- ---- lengths

pub not_below : (x : ℤ) → lt_z x (pos 0) ≡ false → pos 0 ≤ℤ x
not_below x e = grind (arith, ints)

abbrev pub sizes : List Interval → ℕ
sizes xs = sum_by (λ m. m.length) xs

pub longer_here : (from to left : ℤ) (xs : List Interval) (n : ℕ) → left ≡ ((to -ℤ from) -ℤ pos (sizes (take n xs)))
    → left <ℤ pos 0 → to <ℤ (from +ℤ pos (sizes xs))
longer_here from to left xs n is less =
    let part : sizes (take n xs) ≤ sizes xs = sum_by-take-le (λ (m : Interval). m.length) xs n in
    omega (arith, ints, is, less, part)

pub not_longer : (from to left : ℤ) (xs : List Interval) (n : ℕ) → left ≡ ((to -ℤ from) -ℤ pos (sizes (take n xs)))
    → length xs ≤ n → pos 0 ≤ℤ left → ¬ (to <ℤ (from +ℤ pos (sizes xs)))
not_longer from to left xs n is past more long =
    let all : sizes (take n xs) ≡ sizes xs = rw (take_all n xs past) refl in
    omega (arith, ints, is, more, long, all)

pub left_more : (from to left : ℤ) (xs : List Interval) (n : ℕ) (d : Interval) → n < length xs
    → left ≡ ((to -ℤ from) -ℤ pos (sizes (take n xs)))
    → (left -ℤ pos (get_or xs n d).length) ≡ ((to -ℤ from) -ℤ pos (sizes (take (n + 1) xs)))
left_more from to left xs n d lt is =
    let more : sizes (take (n + 1) xs) ≡ sizes (take n xs) + (get_or xs n d).length = sum_by_more (λ (m : Interval). m.length) xs n d lt in
    omega (arith, ints, is, more)
