-- Ranks along an order by rising keys, one place after another.
use Rattle.std.proofs.Common.{◌≡◌, refl, sym, ap, ◌∙◌, ℕ, ◌+◌, ◌-◌, ◌<◌, ◌≤◌, inl, inr, ⊎_elim, ℤ, pos, List, length, get_or, set, arith, unsigned_abs, nat_le}
use Rattle.std.proofs.Common.{nat_lt, get_or-set_same, get_or-set_other}
use Rattle.std.proofs.lemmas.Bool.{cases_eq, cases_lt, le-leb, leb-true, leb-false, lt-leb, ltb-true, ltb-false, lt-ltb, le-ltb}
use Rattle.profile.specs.Orders.{key_at}
use Rattle.bounds.specs.Loads.{IsRank, IsKeyOf, IsRanked, rank_of}
use Rattle.std.specs.List.{Contains, prefix_len}
use Rattle.std.specs.List.Sorted.{IsNonDecreasing}
use Rattle.std.proofs.lemmas.Grind.{get_or_default_zero}
use Rattle.std.proofs.lemmas.List.Sums.{prefix_len_passes, prefix_len_stops, prefix_len-le-length}

-- the key at a place as a natural number
abbrev amount_at : List ℤ → List ℕ → ℕ → ℕ
amount_at keys order i = unsigned_abs (key_at keys order i)

pub ranked_start : (keys : List ℤ) (order rising ranks : List ℕ) → IsRanked keys order 0 0 rising ranks
ranked_start keys order rising ranks = record {
  few = omega arith;
  up = λ i j before short. absurd (omega arith);
  keys_are = λ q lt. absurd (omega arith);
  ranked = λ i lt. absurd (omega arith);
}

later : (keys : List ℤ) (order : List ℕ) (n b c : ℕ) → c ≡ b → IsKeyOf keys order n b → IsKeyOf keys order (n + 1) c
later keys order n b c same k = let early = k.early in record { at = k.at; early = omega arith; is = same ∙ k.is }

-- the rank of one place more is written
ranked_with : (keys : List ℤ) (order : List ℕ) (n count more place : ℕ) (rising new ranks : List ℕ)
    → IsRanked keys order n count rising ranks → place ≡ get_or order n 0 → place < length ranks → count ≤ more
    → more ≤ n + 1 →
    ((q : ℕ) → q < count → get_or new q 0 ≡ get_or rising q 0)
    → ((i j : ℕ) → i < j → j < more → get_or new i 0 < get_or new j 0)
    → ((q : ℕ) → q < more → IsKeyOf keys order (n + 1) (get_or new q 0)) →
    IsRank new more (unsigned_abs (get_or keys place (pos 0))) more → IsRanked keys order (n + 1) more new (set ranks place more)
ranked_with keys order n count more place rising new ranks s at short less few kept up keys_are last = record {
  few = few;
  up = up;
  keys_are = keys_are;
  ranked = λ i lt.
      elim (cases_eq (get_or order i 0) place) [
        | inl e ↦ rw (e, get_or-set_same ranks place more 0 short) last
        | inr ne ↦
            let before : i < n = ⊎_elim
            (λ (early : i < n). early)
            (λ (late : n ≤ i). let same : i ≡ n = omega arith in absurd (ne (ap (λ (m : ℕ). get_or order m 0) same ∙ sym at)))
            (cases_lt i n) in
            let old = s.ranked i before in
            let among : get_or ranks (get_or order i 0) 0 ≤ count = old.among in
            let some : 0 < get_or ranks (get_or order i 0) 0 = old.some in
            rw (get_or-set_other ranks place (get_or order i 0) more 0 ne)
            (record { some = some; among = omega arith; is = kept (get_or ranks (get_or order i 0) 0 - 1) (omega arith) ∙ old.is })
      ];
}

-- a key that is greater than all before it
pub ranked_new : (keys : List ℤ) (order : List ℕ) (n count place : ℕ) (rising ranks : List ℕ)
    → IsRanked keys order n count rising ranks → place ≡ get_or order n 0 → place < length ranks → count < length rising
    →
    (0 < count → get_or rising (count - 1) 0 < unsigned_abs (get_or keys place (pos 0))) →
    IsRanked keys order (n + 1) (count + 1) (set rising count (unsigned_abs (get_or keys place (pos 0)))) (set ranks place (count + 1))
ranked_new keys order n count place rising ranks s at short spare greater =
    let few : count ≤ n = s.few in
    let key : ℕ = unsigned_abs (get_or keys place (pos 0)) in
    let here : get_or (set rising count (unsigned_abs (get_or keys place (pos 0)))) count 0 ≡ unsigned_abs
    (get_or keys place (pos 0)) = get_or-set_same rising count (unsigned_abs (get_or keys place (pos 0))) 0 spare in
    let kept : (q : ℕ) → q < count → get_or (set rising count (unsigned_abs (get_or keys place (pos 0)))) q 0 ≡ get_or
    rising q 0 = λ q lt. get_or-set_other rising count q (unsigned_abs (get_or keys place (pos 0))) 0 (omega arith)
    in
    ranked_with keys order n count (count + 1) place rising
    (set rising count (unsigned_abs (get_or keys place (pos 0)))) ranks s at short (omega arith) (omega arith) kept
    (λ i j before late.
    ⊎_elim
    (λ (early : j < count). omega (arith, kept i (omega arith), kept j early, s.up i j before early))
    (λ (end : count ≤ j).
    let same : j ≡ count = omega arith in
    let last : get_or rising i 0 ≤ get_or rising (count - 1) 0 = ⊎_elim
    (λ (less : i < count - 1). let up = s.up i (count - 1) less (omega arith) in omega arith)
    (λ (most : count - 1 ≤ i). let equal : i ≡ count - 1 = omega arith in let values = ap (λ (m : ℕ). get_or rising m 0) equal in omega (arith, values))
    (cases_lt i (count - 1)) in
    rw same (omega (arith, here, kept i (omega arith), last, greater (omega arith))))
    (cases_lt j count))
    (λ q lt.
    ⊎_elim
    (λ (early : q < count). later keys order n (get_or rising q 0) _ (kept q early) (s.keys_are q early))
    (λ (end : count ≤ q).
    let same : q ≡ count = omega arith in
    rw same (record { at = n; early = omega arith; is = here ∙ ap (λ (m : ℕ). unsigned_abs (get_or keys m (pos 0))) at }))
    (cases_lt q count))
    (record {
      some = omega arith;
      among = omega arith;
      is = let less : count + 1 - 1 ≡ count = omega arith
          in ap (λ (m : ℕ). get_or (set rising count (unsigned_abs (get_or keys place (pos 0)))) m 0) less ∙ here;
    })

-- a key that is the last of them
pub ranked_same : (keys : List ℤ) (order : List ℕ) (n count place : ℕ) (rising ranks : List ℕ)
    → IsRanked keys order n count rising ranks → place ≡ get_or order n 0 → place < length ranks → 0 < count →
    get_or rising (count - 1) 0 ≡ unsigned_abs (get_or keys place (pos 0)) → IsRanked keys order (n + 1) count rising (set ranks place count)
ranked_same keys order n count place rising ranks s at short some same =
    let few : count ≤ n = s.few in
    ranked_with keys order n count count place rising rising ranks s at short (omega arith) (omega arith) (λ q lt. refl) s.up
    (λ q lt. later keys order n (get_or rising q 0) (get_or rising q 0) refl (s.keys_are q lt))
    (record { some = some; among = omega arith; is = same })

-- the last of the keys so far is at most the next
pub last_least : (keys : List ℤ) (order : List ℕ) (n count : ℕ) (rising ranks : List ℕ)
    → IsRanked keys order n count rising ranks → 0 < count
    → ((i : ℕ) → i < n → unsigned_abs (key_at keys order i) ≤ unsigned_abs (key_at keys order n)) →
    get_or rising (count - 1) 0 ≤ unsigned_abs (key_at keys order n)
last_least keys order n count rising ranks s some rises =
    let k = s.keys_are (count - 1) (omega arith) in
    let is : get_or rising (count - 1) 0 ≡ unsigned_abs (key_at keys order k.at) = k.is in
    omega (arith, rises k.at k.early)

-- ---- A tail's rank among rising ones.

-- a tail is at most b where its place is below b's rank
pub rank_tells : (rising : List ℕ) (b j : ℕ) → IsNonDecreasing rising → j < length rising → nat_lt j (rank_of rising b) ≡ nat_le (get_or rising j 0) b
rank_tells rising b j up short =
    ⊎_elim
    (λ (below : j < rank_of rising b). lt-ltb j (rank_of rising b) below ∙ sym (prefix_len_passes (λ t. nat_le t b) rising j 0 below))
    (λ (beyond : rank_of rising b ≤ j).
    let inside : rank_of rising b < length rising = omega arith in
    let stops : b < get_or rising (rank_of rising b) 0 =
    leb-false (get_or rising (rank_of rising b) 0) b (prefix_len_stops (λ t. nat_le t b) rising 0 inside) in
    let rises : get_or rising (rank_of rising b) 0 ≤ get_or rising j 0 = up (rank_of rising b) j 0 beyond short in
    le-ltb j (rank_of rising b) beyond ∙ sym (lt-leb (get_or rising j 0) b (omega arith)))
    (cases_lt j (rank_of rising b))

pub below_rank : (rising : List ℕ) (b j : ℕ) → IsNonDecreasing rising → j < length rising → get_or rising j 0 ≤ b → j < rank_of rising b
below_rank rising b j up short at_most = ltb-true j (rank_of rising b) (rank_tells rising b j up short ∙ le-leb (get_or rising j 0) b at_most)

pub from_below_rank : (rising : List ℕ) (b j : ℕ) → IsNonDecreasing rising → j < length rising → j < rank_of rising b → get_or rising j 0 ≤ b
from_below_rank rising b j up short below = leb-true (get_or rising j 0) b (sym (rank_tells rising b j up short) ∙ lt-ltb j (rank_of rising b) below)

pub rank_limit : (rising : List ℕ) (b : ℕ) → rank_of rising b ≤ length rising
rank_limit rising b = prefix_len-le-length (λ t. nat_le t b) rising

-- the place of a number
pub record IsAt (rising : List ℕ) (b : ℕ) : Type 0 where
  pub place : ℕ
  pub short : place < length rising
  pub is : get_or rising place 0 ≡ b

pub place_of : (rising : List ℕ) (b : ℕ) → Contains rising b → IsAt rising b
place_of rising b (j, lt, at) = record { place = j; short = lt; is = sym (get_or_default_zero rising j b lt) ∙ at }

-- a tail that occurs has a rank above 0
pub rank_some : (rising : List ℕ) (b : ℕ) → IsNonDecreasing rising → Contains rising b → 0 < rank_of rising b
rank_some rising b up there =
    let at = place_of rising b there in
    let is : get_or rising at.place 0 ≡ b = at.is in
    let below : at.place < rank_of rising b = below_rank rising b at.place up at.short (omega arith) in
    omega arith

-- the place of the first tail that is at least b
abbrev pub first_from : List ℕ → ℕ → ℕ
first_from rising b = prefix_len (λ t. nat_lt t b) rising

pub first_late : (rising : List ℕ) (b : ℕ) → first_from rising b < length rising → b ≤ get_or rising (first_from rising b) 0
first_late rising b short = ltb-false (get_or rising (first_from rising b) 0) b (prefix_len_stops (λ t. nat_lt t b) rising 0 short)

-- a tail that occurs is at least b where its rank is above that place
pub first_tells : (rising : List ℕ) (b t : ℕ) → IsNonDecreasing rising → Contains rising t → nat_lt (first_from rising b) (rank_of rising t) ≡ nat_le b t
first_tells rising b t up there =
    let at = place_of rising t there in
    let is : get_or rising at.place 0 ≡ t = at.is in
    ⊎_elim
    (λ (early : t < b).
    let beyond : rank_of rising t ≤ first_from rising b = ⊎_elim
    (λ (less : first_from rising b < rank_of rising t).
    let short : first_from rising b < length rising = omega (arith, less, rank_limit rising t) in
    let low : get_or rising (first_from rising b) 0 ≤ t = from_below_rank rising t (first_from rising b) up short less in
    let high : b ≤ get_or rising (first_from rising b) 0 = first_late rising b short in
    absurd (omega arith))
    (λ (more : rank_of rising t ≤ first_from rising b). more)
    (cases_lt (first_from rising b) (rank_of rising t)) in
    le-ltb (first_from rising b) (rank_of rising t) beyond ∙ sym (lt-leb b t early))
    (λ (late : b ≤ t).
    let before : first_from rising b ≤ at.place = ⊎_elim
    (λ (less : at.place < first_from rising b).
    let low : get_or rising at.place 0 < b = ltb-true (get_or rising at.place 0) b (prefix_len_passes (λ x. nat_lt x b) rising at.place 0 less) in
    absurd (omega arith))
    (λ (more : first_from rising b ≤ at.place). more)
    (cases_lt at.place (first_from rising b)) in
    let below : at.place < rank_of rising t = below_rank rising t at.place up at.short (omega arith) in
    lt-ltb (first_from rising b) (rank_of rising t) (omega arith) ∙ sym (le-leb b t late))
    (cases_lt t b)
