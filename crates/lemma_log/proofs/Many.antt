-- So many parts, read one after another.
use Rattle.std.proofs.Common.{◌≡◌, ◌≤◌, ◌<◌, ℕ, zero, suc, ◌-◌, List, [], ◌∷◌, ◌++◌, length, Option, Some, None, refl, sym, ap, ◌∙◌, append_assoc, arith}
use Rattle.lemma_log.specs.Numbers.{Part}
use Rattle.lemma_log.specs.Reading.{part_as, many_in}

-- some were found, and the others are still to be read of what is left
pub record IsHalfway {A : Type 0} (read : List ℕ → Option (Part A)) (count : ℕ) (bytes : List ℕ) (found : List A) (due : ℕ) (left : List ℕ) : Type 0 where
  pub read_so : many_in read count bytes ≡ part_as (λ xs. found ++ xs) (many_in read due left)
  pub shorter : length left ≤ length bytes

-- before the first
pub as_before : {A : Type 0} (o : Option (Part (List A))) → o ≡ part_as (λ xs. [] ++ xs) o
as_before (Some part) = refl
as_before None = refl

-- one more is found
more_found : {A : Type 0} (found : List A) (x : A) (o : Option (Part (List A)))
    → part_as (λ xs. found ++ xs) (part_as (λ xs. x ∷ xs) o) ≡ part_as (λ xs. (found ++ x ∷ []) ++ xs) o
more_found found x (Some part) = ap (λ xs. Some (record { value = xs; left = part.left })) (sym (append_assoc found (x ∷ []) part.value))
more_found found x None = refl

many_more : {A : Type 0} (read : List ℕ → Option (Part A)) (due : ℕ) (left : List ℕ) (x : A) (rest : List ℕ) → 0 < due
    → read left ≡ Some (record { value = x; left = rest })
    → many_in read due left ≡ part_as (λ xs. x ∷ xs) (many_in read (due - 1) rest)
many_more read zero left x rest some e = absurd (omega arith)
many_more read (suc due) left x rest some e =
    let less : suc due - 1 ≡ due = omega arith in
    rw (e, less)

pub step : {A : Type 0} (read : List ℕ → Option (Part A)) (count : ℕ) (bytes : List ℕ) (found : List A) (due : ℕ)
    (left : List ℕ) (x : A) (rest : List ℕ) → IsHalfway read count bytes found due left → 0 < due
    → read left ≡ Some (record { value = x; left = rest }) → length rest < length left
    → IsHalfway read count bytes (found ++ x ∷ []) (due - 1) rest
step read count bytes found due left x rest h some e less = record {
  read_so = h.read_so ∙ ap (part_as (λ xs. found ++ xs)) (many_more read due left x rest some e) ∙ more_found found x (many_in read (due - 1) rest);
  shorter = omega (arith, h.shorter);
}

pub start : {A : Type 0} (read : List ℕ → Option (Part A)) (count : ℕ) (bytes : List ℕ) → IsHalfway read count bytes [] count bytes
start read count bytes = record { read_so = as_before (many_in read count bytes); shorter = omega arith }
