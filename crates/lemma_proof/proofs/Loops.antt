-- What a loop over a list that stops at the first element without a property knows.
use Rattle.std.proofs.Common.{◌≡◌, refl, ◌+◌, ◌<◌, ◌≤◌, ◌⊎◌, inr, ⊎_elim, arith, Bool, ℕ, List, length, get_or, take, true, false, IsTrue, ◌↔◌}
use Rattle.std.proofs.Common.{sym, ◌∙◌}
use Rattle.std.specs.List.{All, AllPairs}
use Rattle.lemma_proof.specs.Reasons.{Tells}
use Rattle.std.proofs.lemmas.List.{take_all, get_or-take, get_or_default, length-take-le}
use Rattle.std.proofs.lemmas.List.Elements.{All-from_get_or}
use Rattle.std.proofs.lemmas.Bool.{cases_lt, false≢true}

-- the answer is no, and where that is exact, the fact does not hold
pub tells_false : {e b : Bool} {P : Type 0} → Tells e b P → b ≡ false → e ≡ true → ¬ P
tells_false {b = b} told is exact h = let yes : IsTrue b = told.only exact h in absurd (false≢true (sym is ∙ yes))

-- a plain no
pub never : {P : Type 0} → ¬ P → IsTrue false ↔ P
never unmet = (λ t. absurd (false≢true t), λ h. absurd (unmet h))

-- an exact answer
pub tells_both : {b : Bool} {P : Type 0} → Tells true b P → IsTrue b ↔ P
tells_both told = (told.shown, told.only refl)

pub refused : {e : Bool} (P : Type 0) → (e ≡ true → ¬ P) → Tells e false P
refused P never = record { shown = λ t. absurd (false≢true t); only = λ exact h. absurd (never exact h) }

pub granted : {e : Bool} (P : Type 0) → P → Tells e true P
granted P h = record { shown = λ _. h; only = λ _ _. refl }

-- of three the last decides, where neither of the others holds
pub third_decides : {A B C : Type 0} {e b : Bool} → (e ≡ true → ¬ A) → (e ≡ true → ¬ B) → Tells e b C → Tells e b (A ⊎ (B ⊎ C))
third_decides first second third = record {
  shown = λ yes. inr (inr (third.shown yes));
  only = λ exact one. ⊎_elim (λ a. absurd (first exact a)) (λ rest. ⊎_elim (λ b. absurd (second exact b)) (λ c. third.only exact c) rest) one;
}

-- one of them hasn't it
pub some_fails : {X : Type 0} {e : Bool} (P : X → Type 0) (xs : List X) (i : ℕ) (d : X) → i < length xs
    → (e ≡ true → ¬ P (get_or xs i d)) → Tells e false (All P xs)
some_fails P xs i d lt never = refused (All P xs) (λ exact all. never exact (all i d lt))

-- all have it
pub none_fails : {X : Type 0} {e : Bool} (P : X → Type 0) (xs : List X) (i : ℕ) → length xs ≤ i → All P (take i xs) → Tells e true (All P xs)
none_fails P xs i past so_far = let all : All P xs = rw (take_all i xs past) at so_far in granted (All P xs) all

-- ---- each two of them

-- the relation holds of each two of the first n
abbrev pub BeforeAre : {X : Type 0} → (X → X → Type 0) → List X → ℕ → Type 0
BeforeAre {X} R xs n = (i j : ℕ) (d : X) → i < j → j < n → R (get_or xs i d) (get_or xs j d)

pub pairs_more : {X : Type 0} (R : X → X → Type 0) (xs : List X) (n : ℕ) (e : X) → n < length xs → BeforeAre R xs n
    → All (λ x. R x (get_or xs n e)) (take n xs) → BeforeAre R xs (n + 1)
pairs_more R xs n e lt before here i j d less low =
    ⊎_elim
    (λ (early : j < n). before i j d less early)
    (λ (late : n ≤ j).
    let is : j ≡ n = omega arith in
    let inside : i < n = omega arith in
    let long : length (take n xs) ≡ n = length-take-le n xs (omega arith) in
    let at : R (get_or (take n xs) i d) (get_or xs n e) = here i d (rw long inside) in
    let read : R (get_or xs i d) (get_or xs n e) = rw (get_or-take n xs i d inside) at at in
    rw (is, get_or_default xs n d e lt) read)
    (cases_lt j n)

pub pairs_fail : {X : Type 0} {e : Bool} (R : X → X → Type 0) (xs : List X) (n : ℕ) (d : X) → n < length xs
    → (e ≡ true → ¬ All (λ x. R x (get_or xs n d)) (take n xs)) → Tells e false (AllPairs R xs)
pairs_fail R xs n d lt never =
    let long : length (take n xs) ≡ n = length-take-le n xs (omega arith) in
    refused (AllPairs R xs) (λ exact all. never exact (All-from_get_or (λ x. R x (get_or xs n d)) (take n xs) d (λ i low.
    let inside : i < n = rw long at low in
    rw (get_or-take n xs i d inside) (all i n d inside lt))))

pub pairs_hold : {X : Type 0} {e : Bool} (R : X → X → Type 0) (xs : List X) (n : ℕ) → length xs ≤ n → BeforeAre R xs n → Tells e true (AllPairs R xs)
pairs_hold R xs n past before = granted (AllPairs R xs) (λ i j d less low. before i j d less (omega arith))

-- a plain answer
pub plain : {e b : Bool} {P : Type 0} → IsTrue b ↔ P → Tells e b P
plain told = record { shown = told.0; only = λ _ h. told.1 h }
