-- Numbers as bytes are read back.
use Rattle.std.proofs.Common.{◌≡◌, ℕ, zero, suc, ◌+◌, ◌-◌, ◌*◌, ◌/◌, ◌%◌, ◌^◌, ◌<◌, ◌≤◌, List, [], ◌∷◌, ◌++◌, Ok, Err, inl, inr, ◌⊎◌, refl, sym, ap, ◌∙◌}
use Rattle.std.proofs.Common.{append_assoc, arith}
use Rattle.std.proofs.lemmas.Bool.{cases_lt, lt-ltb, le-ltb}
use Rattle.std.proofs.Math.Nat.{pow-suc, one-le-pow, pow-le-pow_right, div-add-mod, div-lt_iff_lt-mul}
use Rattle.lemma_log.specs.declared.fault.DecodeFault.TheVariants.{Short, Form}
use Rattle.lemma_log.specs.Numbers.{digits_text, number_text, with_digit, digits_in}

-- ---- one digit, or the first of several

pub text_low : (most n : ℕ) → n < 128 → digits_text (suc most) n ≡ n ∷ []
unfolding digits_text
text_low most n h = rw (lt-ltb n 128 h)

pub text_high : (most n : ℕ) → 128 ≤ n → digits_text (suc most) n ≡ (n % 128 + 128) ∷ digits_text most (n / 128)
unfolding digits_text
text_high most n h = rw (le-ltb n 128 h)

pub read_low : (most b : ℕ) (bs : List ℕ) → b < 128 → digits_in (suc most) (b ∷ bs) ≡ Ok (record { value = b; left = bs })
unfolding digits_in
read_low most b bs h = rw (lt-ltb b 128 h)

pub read_high : (most b : ℕ) (bs : List ℕ) → 128 ≤ b → digits_in (suc most) (b ∷ bs) ≡ with_digit (b - 128) (digits_in most bs)
unfolding digits_in
read_high most b bs h = rw (le-ltb b 128 h)

-- ---- what the reader meets

pub read_none : (most : ℕ) (bytes : List ℕ) → most ≡ 0 → digits_in most bytes ≡ Err Form
unfolding digits_in
read_none zero bytes h = refl
read_none (suc most) bytes h = absurd (omega arith)

pub read_empty : (most : ℕ) → 0 < most → digits_in most [] ≡ Err Short
unfolding digits_in
read_empty zero h = absurd (omega arith)
read_empty (suc most) h = refl

pub read_last : (most b : ℕ) (bs : List ℕ) → 0 < most → b < 128 → digits_in most (b ∷ bs) ≡ Ok (record { value = b; left = bs })
read_last zero b bs some h = absurd (omega arith)
read_last (suc most) b bs some h = read_low most b bs h

pub read_more : (most b : ℕ) (bs : List ℕ) → 0 < most → 128 ≤ b → digits_in most (b ∷ bs) ≡ with_digit (b - 128) (digits_in (most - 1) bs)
read_more zero b bs some h = absurd (omega arith)
read_more (suc most) b bs some h = let e : suc most - 1 ≡ most = omega arith in rw e (read_high most b bs h)

pub last_small : (most b : ℕ) → 0 < most → b < 128 → b < 128 ^ most
last_small zero b some h = absurd (omega arith)
last_small (suc most) b some h = rw (pow-suc 128 most) (omega (arith, one-le-pow most 128 (omega arith)))

pub more_small : (most low high : ℕ) → 0 < most → low < 128 → high < 128 ^ (most - 1) → low + 128 * high < 128 ^ most
more_small zero low high some h k = absurd (omega arith)
more_small (suc most) low high some h k =
    let e : suc most - 1 ≡ most = omega arith in
    let k' : high < 128 ^ most = rw e at k in
    rw (pow-suc 128 most) (omega arith)

pub fits : (most high : ℕ) → most ≤ 9 → high < 128 ^ (most - 1) → high < 2 ^ 56
fits most high h k = omega (arith, pow-le-pow_right {n = 128} (omega arith) {i = most - 1} {j = 8} (omega arith))

pub ruleset reading = (read_none, read_empty, read_last, read_more, last_small, more_small, fits)

-- ---- what is read back

-- what is left of a number has a digit less
less : (most n : ℕ) → n < 128 ^ suc most → n / 128 < 128 ^ most
less most n h = (div-lt_iff_lt-mul {k = 128} {x = n} {y = 128 ^ most} (omega arith)).1 (rw (pow-suc 128 most) at h)

enough_by : (m n : ℕ) → n < 128 ^ suc m → (n < 128) ⊎ (128 ≤ n) → digits_text (suc (suc m)) n ≡ digits_text (suc m) n
enough_by m n h (inl low) = text_low (suc m) n low ∙ sym (text_low m n low)
enough_by zero n h (inr high) = absurd (omega arith)
enough_by (suc m) n h (inr high) =
    text_high (suc (suc m)) n high ∙ ap (λ (t : List ℕ). (n % 128 + 128) ∷ t)
    (enough_by m (n / 128) (less (suc m) n h) (cases_lt (n / 128) 128)) ∙ sym (text_high (suc m) n high)

-- a number that has few digits has the same ones where more are allowed
pub text_enough : (most n : ℕ) → n < 128 ^ suc most → digits_text (suc (suc most)) n ≡ digits_text (suc most) n
text_enough most n h = enough_by most n h (cases_lt n 128)

again_low : (text most n : ℕ) (rest : List ℕ) → n < 128 → digits_in (suc most) (digits_text (suc text) n ++ rest) ≡ Ok (record { value = n; left = rest })
again_low text most n rest low = rw (text_low text n low) (read_low most n rest low)

again_by : (text most n : ℕ) (rest : List ℕ) → n < 128 ^ suc text → n < 128 ^ suc most → (n < 128) ⊎ (128 ≤ n)
    → digits_in (suc most) (digits_text (suc text) n ++ rest) ≡ Ok (record { value = n; left = rest })
again_by text most n rest h k (inl low) = again_low text most n rest low
again_by zero most n rest h k (inr high) = absurd (omega arith)
again_by (suc text) zero n rest h k (inr high) = absurd (omega arith)
again_by (suc text) (suc most) n rest h k (inr high) =
    let digit : n % 128 + 128 - 128 + 128 * (n / 128) ≡ n = omega (arith, div-add-mod n 128) in
    let more = again_by text most (n / 128) rest (less (suc text) n h) (less (suc most) n k) (cases_lt (n / 128) 128) in
    rw (text_high (suc text) n high) (read_high (suc most) (n % 128 + 128) (digits_text (suc text) (n / 128) ++ rest)
    (omega arith) ∙ ap (with_digit (n % 128 + 128 - 128)) more
    ∙ ap (λ (v : ℕ). Ok (record { value = v; left = rest })) digit)

-- ---- what the writer writes

pub number_last : (n : ℕ) → n < 128 → number_text n ≡ n ∷ []
unfolding number_text
number_last n h = text_low 18 n h

pub number_more : (n : ℕ) → 128 ≤ n → n < 2 ^ 128 → number_text n ≡ (n % 128 + 128) ∷ number_text (n / 128)
unfolding number_text
number_more n high fits =
    text_high 18 n high ∙ ap (λ (t : List ℕ). (n % 128 + 128) ∷ t) (sym (text_enough 17 (n / 128) (less 18 n (omega arith))))

pub ruleset writing = (number_last, number_more)

-- a digit written, and the others still to be
pub more_written : (done text : List ℕ) (n : ℕ) → 128 ≤ n → n < 2 ^ 128 → done ++ number_text n ≡ text
    → (done ++ (n % 128 + 128) ∷ []) ++ number_text (n / 128) ≡ text
more_written done text n high fits h =
    append_assoc done ((n % 128 + 128) ∷ []) (number_text (n / 128)) ∙ ap (λ (t : List ℕ). done ++ t) (sym (number_more n high fits)) ∙ h

-- a number of at most 9 digits is read back
pub number_again : (n : ℕ) (rest : List ℕ) → n < 2 ^ 63 → digits_in 9 (number_text n ++ rest) ≡ Ok (record { value = n; left = rest })
unfolding number_text
number_again n rest h = again_by 18 8 n rest (omega arith) (omega arith) (cases_lt n 128)
