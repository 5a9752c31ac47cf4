-- Which lemmas are in slots that were made, filled and emptied.
use Rattle.std.proofs.Common.{◌≡◌, ◌≢◌, sym, ap, ◌∙◌, subst, ℕ, zero, suc, ◌<◌, ◌≤◌, ◌+◌, ◌-◌, arith, ⊎_elim, ◌⊎◌, inl, inr, List, [], ◌∷◌, ◌++◌, length}
use Rattle.std.proofs.Common.{replicate, get_or, set, Option, None, Some, slice_set, append_assoc}
use Rattle.std.proofs.lemmas.Bool.{cases_eq}
use Rattle.std.proofs.lemmas.List.{get_or-replicate, get_or-set_other, get_or-set_same, length-replicate, length-set, replicate-append-replicate}
use Rattle.std.proofs.lemmas.Option.{get_or_from_slice_get, slice_get-get_or, slice_get_within}
use Rattle.network.specs.declared.parts.Lag.{Lag}
use Rattle.lemma_proof.specs.Slots.{IsFilled, IsIn, Slots, with_slot}

none_there : (n k : ℕ) (lemma : List Lag) → ¬ IsIn (replicate n None) k lemma
none_there n k lemma found =
    let empty : List (Option (List Lag)) = replicate n None in
    let lt : k < length empty = slice_get_within empty k (Some lemma) found in
    let is : get_or empty k None ≡ Some lemma = get_or_from_slice_get empty k (Some lemma) None found in
    let long : length empty ≡ n = length-replicate n None in
    let low : k < n = omega (arith, lt, long) in
    let none : get_or empty k None ≡ None = get_or-replicate n k None None low in
    let bad : None ≡ Some lemma = sym none ∙ is in
    cc

pub in_more : (lemmas : Slots) (n k : ℕ) (lemma : List Lag) → IsIn (lemmas ++ replicate n None) k lemma → IsIn lemmas k lemma
in_more [] n k lemma found = absurd (none_there n k lemma found)
in_more (x ∷ lemmas) n zero lemma found = found
in_more (x ∷ lemmas) n (suc k) lemma found = in_more lemmas n k lemma found

pub in_with_slot : (lemmas : Slots) (slot k : ℕ) (lemma : List Lag) → IsIn (with_slot lemmas slot) k lemma → IsIn lemmas k lemma
in_with_slot lemmas slot k lemma found = in_more lemmas (slot + 1 - length lemmas) k lemma found

-- a lemma that is in a list of which one slot was set is in that slot, or was there in another one
pub in_set_at : (lemmas : Slots) (slot k : ℕ) (x : Option (List Lag)) (lemma : List Lag)
    → IsIn (slice_set lemmas slot x) k lemma
    → ((k ≡ slot) × (x ≡ Some lemma)) ⊎ ((k ≢ slot) × IsIn lemmas k lemma)
in_set_at lemmas slot k x lemma found =
    let lt : k < length (set lemmas slot x) = slice_get_within (set lemmas slot x) k (Some lemma) found in
    let is : get_or (set lemmas slot x) k None ≡ Some lemma = get_or_from_slice_get (set lemmas slot x) k (Some lemma) None found in
    ⊎_elim
    (λ (same : k ≡ slot).
    let long : length (set lemmas slot x) ≡ length lemmas = length-set lemmas slot x in
    let low : slot < length lemmas = omega (arith, lt, long, same) in
    let here : get_or (set lemmas slot x) slot None ≡ Some lemma = subst (λ (i : ℕ). get_or (set lemmas slot x) i None ≡ Some lemma) same is in
    inl (same, sym (get_or-set_same lemmas slot x None low) ∙ here))
    (λ (other : k ≡ slot → ⊥).
    let old : get_or lemmas k None ≡ Some lemma = sym (get_or-set_other lemmas slot k x None other) ∙ is in
    let long : length (set lemmas slot x) ≡ length lemmas = length-set lemmas slot x in
    inr (other, slice_get-get_or lemmas k None (omega (arith, lt, long)) ∙ ap Some old))
    (cases_eq k slot)

pub in_set : (lemmas : Slots) (slot k : ℕ) (x : Option (List Lag)) (lemma : List Lag)
    → IsIn (slice_set lemmas slot x) k lemma → (x ≡ Some lemma) ⊎ IsIn lemmas k lemma
in_set lemmas slot k x lemma found =
    ⊎_elim
    (λ (here : (k ≡ slot) × (x ≡ Some lemma)). inl here.1)
    (λ (old : (k ≢ slot) × IsIn lemmas k lemma). inr old.1)
    (in_set_at lemmas slot k x lemma found)

-- ---- empty slots more

push_none : (n : ℕ) → replicate {A = Option (List Lag)} n None ++ None ∷ [] ≡ replicate {A = Option (List Lag)} (n + 1) None
push_none n = replicate-append-replicate n 1 None

pub made_more : (old : Slots) (count i : ℕ) → count ≤ i → (old ++ replicate (i - count) None) ++ None ∷ [] ≡ old ++ replicate (i + 1 - count) None
made_more old count i le =
    let one : i + 1 - count ≡ (i - count) + 1 = omega (arith, le) in
    append_assoc old (replicate (i - count) None) (None ∷ [])
    ∙ ap (λ (rest : Slots). old ++ rest) (push_none (i - count)
    ∙ ap (λ (n : ℕ). replicate {A = Option (List Lag)} n None) (sym one))

-- ---- a lemma more in a slot, and one that goes

pub in_shelved : (lemmas : Slots) (slot k : ℕ) (arcs lemma : List Lag)
    → IsIn (slice_set (with_slot lemmas slot) slot (Some arcs)) k lemma → (arcs ≡ lemma) ⊎ IsIn lemmas k lemma
in_shelved lemmas slot k arcs lemma found =
    ⊎_elim
    (λ (new : Some arcs ≡ Some lemma). inl (same arcs lemma new))
    (λ (old : IsIn (with_slot lemmas slot) k lemma). inr (in_with_slot lemmas slot k lemma old))
    (in_set (with_slot lemmas slot) slot k (Some arcs) lemma found)
  where
    same : (x y : List Lag) → Some x ≡ Some y → x ≡ y
    same x y e = cc

pub in_emptied : (lemmas : Slots) (slot k : ℕ) (lemma : List Lag) → IsIn (slice_set lemmas slot None) k lemma → IsIn lemmas k lemma
in_emptied lemmas slot k lemma found = ⊎_elim (λ (none : None ≡ Some lemma). absurd (cc))
    (λ (old : IsIn lemmas k lemma). old) (in_set lemmas slot k None lemma found)

-- the lemmas of other slots stay
set_other : (lemmas : Slots) (slot k : ℕ) (x : Option (List Lag)) (lemma : List Lag) → k ≢ slot → IsIn lemmas k lemma → IsIn (slice_set lemmas slot x) k lemma
set_other lemmas slot k x lemma other found =
    let lt : k < length lemmas = slice_get_within lemmas k (Some lemma) found in
    let long : length (set lemmas slot x) ≡ length lemmas = length-set lemmas slot x in
    let is : get_or lemmas k None ≡ Some lemma = get_or_from_slice_get lemmas k (Some lemma) None found in
    slice_get-get_or (set lemmas slot x) k None (omega (arith, lt, long)) ∙ ap Some (get_or-set_other lemmas slot k x None other ∙ is)

more_in : (lemmas : Slots) (n k : ℕ) (lemma : List Lag) → IsIn lemmas k lemma → IsIn (lemmas ++ replicate n None) k lemma
more_in [] n k lemma found = absurd (cc)
more_in (x ∷ lemmas) n zero lemma found = found
more_in (x ∷ lemmas) n (suc k) lemma found = more_in lemmas n k lemma found

-- what is shelved in an empty slot takes no other lemma's
pub shelved_there : (lemmas : Slots) (slot k : ℕ) (arcs lemma : List Lag) → ¬ IsFilled lemmas slot → IsIn lemmas k lemma
    → IsIn (slice_set (with_slot lemmas slot) slot (Some arcs)) k lemma
shelved_there lemmas slot k arcs lemma free found =
    set_other (with_slot lemmas slot) slot k (Some arcs) lemma
    (λ same. free (lemma, subst (λ (i : ℕ). IsIn lemmas i lemma) same found))
    (more_in lemmas (slot + 1 - length lemmas) k lemma found)
