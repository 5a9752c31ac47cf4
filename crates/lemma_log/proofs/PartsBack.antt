-- Numbers, arcs and lists of them are read back.
use Rattle.std.proofs.Common.{◌≡◌, ◌<◌, ℕ, zero, suc, ◌+◌, ◌*◌, ◌/◌, ◌%◌, ◌^◌, ℤ, pos, negsuc, neg_ℤ, List, [], ◌∷◌, ◌++◌, length, Option, Some, refl, ap, ◌∙◌}
use Rattle.std.proofs.Common.{append_assoc, arith}
use Rattle.std.specs.List.{flat_map, AllByRecursion}
use Rattle.std.specs.Result.{result_ok}
use Rattle.std.proofs.lemmas.Int.{ints}
use Rattle.std.proofs.Math.Dec.{eqb-suc-zero}
use Rattle.network.specs.declared.parts.Lag.{Lag}
use Rattle.lemma_log.specs.Numbers.{Part, number_text, zigzag, signed_text}
use Rattle.lemma_log.specs.Text.{arc_text, IsIndex, IsAmount, IsWritableArc}
use Rattle.lemma_log.specs.Reading.{then_read, part_as, many_in, number_in, unzigzag, signed_in, weighted, arc_of, arc_in}
use Rattle.lemma_log.proofs.Digits.{number_again}

-- ---- numbers

pub number_back : (n : ℕ) (rest : List ℕ) → n < 2 ^ 63 → number_in (number_text n ++ rest) ≡ Some (record { value = n; left = rest })
unfolding number_in
number_back n rest h = ap result_ok (number_again n rest h)

pub index_back : (n : ℕ) (rest : List ℕ) → IsIndex n → number_in (number_text n ++ rest) ≡ Some (record { value = n; left = rest })
index_back n rest h = number_back n rest (omega arith)

-- what goes on with a number that was written
pub opened : {B : Type 0} (n : ℕ) (rest : List ℕ) (more : ℕ → List ℕ → Option B) → n < 2 ^ 63 → then_read (number_in (number_text n ++ rest)) more ≡ more n rest
opened n rest more h = ap (λ part. then_read part more) (number_back n rest h)

unzigzag-zigzag : (v : ℤ) → unzigzag (zigzag v) ≡ v
unzigzag-zigzag (pos n) =
    let even : 2 * n % 2 ≡ 0 = omega arith in
    let half : 2 * n / 2 ≡ n = omega arith in
    rw (even, half)
unzigzag-zigzag (negsuc n) =
    let odd : (2 * n + 1) % 2 ≡ 1 = omega arith in
    let half : (2 * n + 1) / 2 ≡ n = omega arith in
    rw (odd, half)

pub signed_back : (v : ℤ) (rest : List ℕ) → zigzag v < 2 ^ 63 → signed_in (signed_text v ++ rest) ≡ Some (record { value = v; left = rest })
unfolding signed_in
signed_back v rest h = ap (part_as unzigzag) (number_back (zigzag v) rest h) ∙ ap (λ u. Some (record { value = u; left = rest })) (unzigzag-zigzag v)

amount_place : (v : ℤ) → IsAmount v → zigzag v < 2 ^ 63
amount_place (pos n) h = omega (arith, ints, h.at_most)
amount_place (negsuc n) h = omega (arith, ints, h.at_least)

pub amount_back : (v : ℤ) (rest : List ℕ) → IsAmount v → signed_in (signed_text v ++ rest) ≡ Some (record { value = v; left = rest })
amount_back v rest h = signed_back v rest (amount_place v h)

-- ---- lists

-- each of these is read back
abbrev pub AreBack : {A : Type 0} → (List ℕ → Option (Part A)) → (A → List ℕ) → (A → Type 0) → Type 0
AreBack {A} read text Fits = (x : A) (rest : List ℕ) → Fits x → read (text x ++ rest) ≡ Some (record { value = x; left = rest })

pub many_back : {A : Type 0} (read : List ℕ → Option (Part A)) (text : A → List ℕ) (Fits : A → Type 0)
    → AreBack read text Fits → (xs : List A) (rest : List ℕ) → AllByRecursion Fits xs
    → many_in read (length xs) (flat_map text xs ++ rest) ≡ Some (record { value = xs; left = rest })
many_back read text Fits one [] rest all = refl
many_back read text Fits one (x ∷ xs) rest all =
    rw (append_assoc (text x) (flat_map text xs) rest, one x (flat_map text xs ++ rest) all.0, many_back read text Fits one xs rest all.1)

-- ---- arcs

-- a number that has its kind as its remainder by 3
thirds : {B : Type 0} (n kind at : ℕ) (rest : List ℕ) (more : ℕ → ℕ → List ℕ → Option B) → n ≡ 3 * at + kind → kind < 3
    → IsIndex at → then_read (number_in (number_text n ++ rest)) (λ first. more (first % 3) (first / 3)) ≡ more kind at
    rest
thirds n kind at rest more e few small =
    let rem : n % 3 ≡ kind = omega arith in
    let quo : n / 3 ≡ at = omega arith in
    opened n rest (λ first. more (first % 3) (first / 3)) (omega arith) ∙ rw (rem, quo)

arc_from_zero : (j : ℕ) (v : ℤ) (rest : List ℕ) → IsIndex j → IsAmount v
    → arc_in (number_text (3 * j) ++ (signed_text v ++ rest)) ≡ Some
    (record { value = record { from = 0; to = j; weight = v }; left = rest })
unfolding arc_in
arc_from_zero j v rest hj hv =
    thirds (3 * j) 0 j (signed_text v ++ rest) arc_of (omega arith) (omega arith) hj
    ∙ ap (part_as (λ w. record { from = 0; to = j; weight = w })) (amount_back v rest hv)

neg_again : (v : ℤ) → neg_ℤ (neg_ℤ v) ≡ v
neg_again v = omega (arith, ints)

neg_small : (v : ℤ) → IsAmount v → IsAmount (neg_ℤ v)
neg_small v h = record { at_least = omega (arith, ints, h.at_most); at_most = omega (arith, ints, h.at_least) }

arc_to_zero : (i : ℕ) (v : ℤ) (rest : List ℕ) → IsIndex i → IsAmount v
    → arc_in (number_text (3 * i + 1) ++ (signed_text (neg_ℤ v) ++ rest)) ≡ Some
    (record { value = record { from = i; to = 0; weight = v }; left = rest })
unfolding arc_in
arc_to_zero i v rest hi hv =
    thirds (3 * i + 1) 1 i (signed_text (neg_ℤ v) ++ rest) arc_of (omega arith) (omega arith) hi
    ∙ ap (part_as (λ w. record { from = i; to = 0; weight = neg_ℤ w }))
    (amount_back (neg_ℤ v) rest (neg_small v hv))
    ∙ ap (λ w. Some (record { value = record { from = i; to = 0; weight = w }; left = rest })) (neg_again v)

arc_of_others : (i j : ℕ) (v : ℤ) (rest : List ℕ) → IsIndex i → IsIndex j → IsAmount v
    → arc_in (number_text (3 * i + 2) ++ (number_text j ++ (signed_text v ++ rest))) ≡ Some
    (record { value = record { from = i; to = j; weight = v }; left = rest })
unfolding arc_in
arc_of_others i j v rest hi hj hv =
    thirds (3 * i + 2) 2 i (number_text j ++ (signed_text v ++ rest)) arc_of (omega arith) (omega arith) hi
    ∙ opened j (signed_text v ++ rest) (weighted i) (omega arith)
    ∙ ap (part_as (λ w. record { from = i; to = j; weight = w })) (amount_back v rest hv)

arc_by : (i j : ℕ) (v : ℤ) (rest : List ℕ) → IsIndex i → IsIndex j → IsAmount v
    → arc_in (arc_text (record { from = i; to = j; weight = v }) ++ rest) ≡ Some
    (record { value = record { from = i; to = j; weight = v }; left = rest })
arc_by zero j v rest hi hj hv = rw append_assoc (arc_from_zero j v rest hj hv)
arc_by (suc i) zero v rest hi hj hv = rw (eqb-suc-zero i, append_assoc) (arc_to_zero (suc i) v rest hi hv)
arc_by (suc i) (suc j) v rest hi hj hv = simp (eqb-suc-zero, append_assoc) (arc_of_others (suc i) (suc j) v rest hi hj hv)

pub lag_back : (e : Lag) (rest : List ℕ) → IsWritableArc e → arc_in (arc_text e ++ rest) ≡ Some (record { value = e; left = rest })
lag_back e rest h = arc_by e.from e.to e.weight rest h.from h.to h.weight
