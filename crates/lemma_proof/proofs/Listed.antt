-- The slots of lemmas that say delays stay listed.
use Rattle.std.proofs.Common.{◌≡◌, ◌≢◌, refl, sym, ap, ◌∙◌, ℕ, ◌≤◌, ◌<◌, ℤ, pos, ◌-ℤ◌, ◌≤ℤ◌, List, [], ◌∷◌, Option, None, Some, slice_set, ⊎_elim, ◌⊎◌, Bool, true, false, cond}
use Rattle.std.proofs.Common.{◌==◌, ◌↔◌, IsTrue, eq-eqb, min, max, arith}
use Rattle.std.specs.Int.Signed.{le_z}
use Rattle.std.specs.List.{Contains, list_any}
use Rattle.std.specs.declared.cmp.Ordering.{Ordering}
use Rattle.std.specs.declared.cmp.Ordering.TheVariants.{Less, Equal, Greater}
use Rattle.std.specs.declared.ops.Bound.TheVariants.{Included}
use Rattle.std.specs.Ordering.{eq_by_cmp, is_eq, is_le, is_lt, nat_cmp, ordering_then}
use Rattle.std.specs.BTreeSet.{BTreeSet, contains, keys_between}
use Rattle.std.specs.BTreeMap.Range.{range_contains}
use Rattle.std.proofs.lemmas.Bool.{false≢true}
use Rattle.std.proofs.lemmas.Cmp.{by_ranked, nat_cmp_total, ranked, tied_itself}
use Rattle.std.proofs.lemmas.Int.{ints}
use Rattle.std.proofs.lemmas.Map.Lookups.{CmpEqualImpliesEq, exact_pairs, exact_unsigned}
use Rattle.std.proofs.lemmas.Map.Views.{Contains-from_any, any-filter_same}
use Rattle.network.specs.declared.parts.Lag.{Lag}
use Rattle.lemma_proof.specs.declared.line.Interval.{Interval}
use Rattle.lemma_proof.specs.Slots.{AreDelays, AreListed, IsIn, IsListed, KeepsListed, KeepsOthers, SaysDelays, Slots, ends_of, joined, place_cmp, with_slot}
use Rattle.lemma_proof.proofs.Slotted.{in_set_at, in_with_slot}
use Rattle.lemma_proof.proofs.Weighing.{le_test, test_le}

pub none_listed : (places : BTreeSet ((ℕ × ℕ) × ℕ)) → AreListed [] places
none_listed places slot lemma found = absurd (cc)

pub put_listed : (lemmas : Slots) (slot : ℕ) (lemma : List Lag) (old new : BTreeSet ((ℕ × ℕ) × ℕ)) → AreListed lemmas old
    → KeepsListed old new → IsListed new lemma slot → AreListed (slice_set (with_slot lemmas slot) slot (Some lemma)) new
put_listed lemmas slot lemma old new listed kept here k other found ends is =
    ⊎_elim
    (λ (at : (k ≡ slot) × (Some lemma ≡ Some other)).
    let same : lemma ≡ other = same_lemma lemma other at.1 in
    rw at.0 (here ends (rw same is)))
    (λ (before : (k ≢ slot) × IsIn (with_slot lemmas slot) k other).
    kept (ends, k) (listed k other (in_with_slot lemmas slot k other before.1) ends is))
    (in_set_at (with_slot lemmas slot) slot k (Some lemma) other found)
  where
    same_lemma : (x y : List Lag) → Some x ≡ Some y → x ≡ y
    same_lemma x y e = cc

pub gone_listed : (lemmas : Slots) (slot : ℕ) (old new : BTreeSet ((ℕ × ℕ) × ℕ)) → AreListed lemmas old
    → KeepsOthers slot old new → AreListed (slice_set lemmas slot None) new
gone_listed lemmas slot old new listed kept k lemma found ends is =
    ⊎_elim
    (λ (at : (k ≡ slot) × (None ≡ Some lemma)). absurd (let bad = at.1 in cc))
    (λ (before : (k ≢ slot) × IsIn lemmas k lemma). kept (ends, k) before.0 (listed k lemma before.1 ends is))
    (in_set_at lemmas slot k None lemma found)

pub kept_listed : (lemmas : Slots) (old new : BTreeSet ((ℕ × ℕ) × ℕ)) → AreListed lemmas old → KeepsListed old new → AreListed lemmas new
kept_listed lemmas old new listed kept k lemma found ends is = kept (ends, k) (listed k lemma found ends is)

-- ---- which slots are listed

pub delay_tested : (w d : ℤ) → IsTrue (le_z w (pos 1 -ℤ d)) ↔ (d ≤ℤ (pos 1 -ℤ w))
delay_tested w d = (
  λ test. let low : w ≤ℤ (pos 1 -ℤ d) = le_test w (pos 1 -ℤ d) test in omega (arith, ints),
  λ low. test_le w (pos 1 -ℤ d) (omega (arith, ints)),
)

pub still_added : (b old new : Bool) → new ≡ cond b true old → old ≡ true → new ≡ true
still_added true old new is had = is
still_added false old new is had = is ∙ had

-- places of which neither is before the other are the same
abbrev ends_cmp : ℕ × ℕ → ℕ × ℕ → Ordering
ends_cmp x y = ordering_then (nat_cmp x.0 y.0) (nat_cmp x.1 y.1)

exact : CmpEqualImpliesEq place_cmp
exact = exact_pairs ends_cmp nat_cmp (exact_pairs nat_cmp nat_cmp exact_unsigned exact_unsigned) exact_unsigned

from_eq : (o : Ordering) → is_eq o ≡ true → o ≡ Equal
from_eq Less e = absurd (false≢true e)
from_eq Equal e = refl
from_eq Greater e = absurd (false≢true e)

same_place : (x y : (ℕ × ℕ) × ℕ) → is_eq (place_cmp x y) ≡ true → x ≡ y
same_place x y e = exact x y (from_eq (place_cmp x y) e)

pub not_at : (ends : ℕ × ℕ) (slot : ℕ) (x : (ℕ × ℕ) × ℕ) → x.1 ≢ slot → is_eq (place_cmp (ends, slot) x) ≡ false
not_at ends slot x other = by_test (is_eq (place_cmp (ends, slot) x)) refl
  where
    by_test : (b : Bool) → is_eq (place_cmp (ends, slot) x) ≡ b → b ≡ false
    by_test true e = absurd (other (sym (ap (λ (y : (ℕ × ℕ) × ℕ). y.1) (same_place (ends, slot) x e))))
    by_test false e = refl

-- those of two activities are between the first and the last
nat_self : (n : ℕ) → nat_cmp n n ≡ Equal
nat_self n = tied_itself nat_cmp_total n

ends_self : (e : ℕ × ℕ) (o : Ordering) → ordering_then (ordering_then (nat_cmp e.0 e.0) (nat_cmp e.1 e.1)) o ≡ o
ends_self e o = rw (nat_self e.0, nat_self e.1)

le_from : (m n : ℕ) → m ≤ n → is_le (nat_cmp m n) ≡ true
le_from m n h = by_ranked (m < n) (m ≡ n) (n < m) (nat_cmp m n) (ranked m n (nat_cmp m n) refl)
    (λ is less. ap is_le is) (λ is same. ap is_le is) (λ is more. absurd (omega arith))

not_before : (m n : ℕ) → m ≤ n → is_lt (nat_cmp n m) ≡ false
not_before m n h = by_ranked (n < m) (n ≡ m) (m < n) (nat_cmp n m) (ranked n m (nat_cmp n m) refl)
    (λ is less. absurd (omega arith)) (λ is same. ap is_lt is) (λ is more. ap is_lt is)

in_range : (ends : ℕ × ℕ) (slot last : ℕ) → slot ≤ last
    → range_contains place_cmp (Included (ends, 0)) (Included (ends, last)) (ends, slot) ≡ true
in_range ends slot last h = rw (ends_self ends (nat_cmp 0 slot), ends_self ends (nat_cmp last slot), le_from 0 slot (omega arith), not_before slot last h)

at_place : (x y : (ℕ × ℕ) × ℕ) (lo hi : (ℕ × ℕ) × ℕ) → range_contains place_cmp (Included lo) (Included hi) x ≡ true
    → is_eq (place_cmp x y) ≡ true → range_contains place_cmp (Included lo) (Included hi) y ≡ true
at_place x y lo hi inside e = rw (sym (same_place x y e)) inside

pub among : (places : BTreeSet ((ℕ × ℕ) × ℕ)) (ends : ℕ × ℕ) (slot last : ℕ) (lo hi : (ℕ × ℕ) × ℕ) (all : List ((ℕ × ℕ) × ℕ))
    → lo ≡ (ends, 0) → hi ≡ (ends, last) → slot ≤ last → all ≡ keys_between place_cmp (Included lo) (Included hi) places
    → contains place_cmp places (ends, slot) ≡ true → Contains all (ends, slot)
among places ends slot last lo hi all first end low is has =
    let inside : range_contains place_cmp (Included lo) (Included hi) (ends, slot) ≡ true = rw (first, end) (in_range ends slot last low) in
    let found : list_any (λ y. is_eq (place_cmp (ends, slot) y)) (keys_between place_cmp (Included lo) (Included hi) places) ≡ true =
    any-filter_same (λ y. is_eq (place_cmp (ends, slot) y)) (range_contains place_cmp (Included lo) (Included hi)) true
    (λ y e. at_place (ends, slot) y lo hi inside e) places.keys ∙ has in
    rw is (Contains-from_any {eq = eq_by_cmp place_cmp} same_place (ends, slot) (keys_between place_cmp (Included lo) (Included hi) places) found)

-- ---- what is listed of a lemma that says delays

there_and_back : (a b : Lag) (i j : ℕ) → a.from ≡ i → a.to ≡ j → b.from ≡ j → b.to ≡ i → ends_of (a ∷ b ∷ []) ≡ Some (joined i j)
there_and_back a b i j from to back_from back_to =
    let first : (a.from == b.to) ≡ true = eq-eqb a.from b.to (from ∙ sym back_to) in
    let second : (a.to == b.from) ≡ true = eq-eqb a.to b.from (to ∙ sym back_from) in
    rw (first, second, from, to)

swapped : (i j : ℕ) → joined i j ≡ joined j i
swapped i j =
    let least : min i j ≡ min j i = omega arith in
    let most : max i j ≡ max j i = omega arith in
    rw (least, most)

pub says_ends : (m k : Interval) (lemma : List Lag) → SaysDelays m k lemma → ends_of lemma ≡ Some (joined m.activity k.activity)
says_ends m k [] says = absurd says
says_ends m k (a ∷ []) says = absurd says
says_ends m k (a ∷ b ∷ []) says =
    ⊎_elim
    (λ (d : AreDelays m k a b). there_and_back a b m.activity k.activity d.there_from d.there_to d.back_from d.back_to)
    (λ (d : AreDelays m k b a).
    there_and_back a b k.activity m.activity d.back_from d.back_to d.there_from d.there_to
    ∙ ap Some (swapped k.activity m.activity))
    says
says_ends m k (a ∷ b ∷ c ∷ arcs) says = absurd says
