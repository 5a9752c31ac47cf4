-- Which bytes begin with the title of a log.
use Rattle.std.proofs.Common.{◌≡◌, Bool, true, false, ℕ, List, [], ◌∷◌, ◌++◌, if◌then◌else◌, length, drop, Result, Ok, Err, ◌⊎◌, inl, inr, ⊎_elim, refl}
use Rattle.std.specs.Prelude.{nat_eq}
use Rattle.std.specs.List.{starts_with}
use Rattle.std.proofs.lemmas.Bool.{false≢true}
use Rattle.std.proofs.lemmas.Bool.Decides.{Decides-eqb}
use Rattle.std.proofs.lemmas.Slice.Eq.{starts_is}
use Rattle.lemma_log.specs.declared.fault.DecodeFault.{DecodeFault}
use Rattle.lemma_log.specs.declared.fault.DecodeFault.TheVariants.{Form, Short}
use Rattle.lemma_log.specs.Text.{title_text}
use Rattle.lemma_log.specs.Reading.{title_in}

-- what is read of a title, by whether the bytes begin with it, or it with them
abbrev title_by : Bool → Bool → Result ℕ DecodeFault
title_by begins ends = if begins then Ok (length title_text) else if ends then Err Short else Err Form

by_ok : (begins ends : Bool) (n : ℕ) → title_by begins ends ≡ Ok n → (begins ≡ true) × (n ≡ length title_text)
by_ok true ends n h = (refl, let is : Ok (length title_text) ≡ Ok n = h in cc)
by_ok false true n h = absurd (let is : Err Short ≡ Ok n = h in cc)
by_ok false false n h = absurd (let is : Err Form ≡ Ok n = h in cc)

never : (b : Bool) → ¬ (b ≡ true) → b ≡ false
never true not = absurd (not refl)
never false not = refl

abbrev IsPrefix : List ℕ → List ℕ → Type 0
IsPrefix front all = (rest : List ℕ) × (all ≡ front ++ rest)

starts : (bytes front rest : List ℕ) → bytes ≡ front ++ rest → starts_with nat_eq bytes front ≡ true
starts bytes front rest is = (starts_is Decides-eqb bytes front (starts_with nat_eq bytes front) refl).1 rest is

started : (bytes front : List ℕ) → starts_with nat_eq bytes front ≡ true → bytes ≡ front ++ drop (length front) bytes
started bytes front h = (starts_is Decides-eqb bytes front (starts_with nat_eq bytes front) refl).0 h

-- the title comes first
pub title_first : (bytes : List ℕ) (n : ℕ) → title_in bytes ≡ Ok n → bytes ≡ title_text ++ drop n bytes
title_first bytes n h =
    let begins = by_ok (starts_with nat_eq bytes title_text) (starts_with nat_eq title_text bytes) n h in
    let is = started bytes title_text begins.0 in
    let count : n ≡ length title_text = begins.1 in
    rw count is

-- of two beginnings of a list one begins with the other
either_first : (a x b y : List ℕ) → a ++ x ≡ b ++ y → IsPrefix a b ⊎ IsPrefix b a
either_first [] x b y is = inl (b, refl)
either_first (h ∷ a) x [] y is = inr (h ∷ a, refl)
either_first (h ∷ a) x (k ∷ b) y is =
    let head : h ≡ k = cc in
    let tail : a ++ x ≡ b ++ y = cc in
    ⊎_elim
    (λ (r : IsPrefix a b). let rest = r.1 in inl (r.0, cc))
    (λ (r : IsPrefix b a). let rest = r.1 in inr (r.0, cc))
    (either_first a x b y tail)

is_ok : (begins ends : Bool) → begins ≡ true → title_by begins ends ≡ Ok (length title_text)
is_ok true ends h = refl
is_ok false ends h = absurd (false≢true h)

-- bytes that begin with the title
pub title_there : (bytes rest : List ℕ) → bytes ≡ title_text ++ rest → title_in bytes ≡ Ok (length title_text)
title_there bytes rest is = is_ok (starts_with nat_eq bytes title_text) (starts_with nat_eq title_text bytes) (starts bytes title_text rest is)
