-- Dropping from a forbidden set until no member can be spared leaves a minimal one.
use Rattle.std.proofs.Common.{◌≡◌, ℕ, zero, suc, ◌+◌, ◌<◌, ◌≤◌, cond, eqb, List, [], ◌∷◌, length, get_or, refl, ⊎_elim, arith, add-one, Bool, true, false, ◌++◌}
use Rattle.std.proofs.Common.{take, drop, map, sym, ap, ◌∙◌, ◌-◌, inl, inr, Ordering}
use Rattle.std.specs.List.{All, sum_by, AllPairs, Contains, filter, sum}
use Rattle.std.specs.List.Sorted.{IsStrictlyIncreasing, IsNonDecreasing, IsPermutation, IsSorted}
use Rattle.std.proofs.lemmas.Bool.{cases_lt}
use Rattle.std.proofs.lemmas.Bool.Decides.{nat_tests}
use Rattle.std.proofs.lemmas.List.Sums.{sum_by-cons, sum_by_more, sum_by-take-le, sum_by_push, sum_by-take-drop, sum-map}
use Rattle.std.proofs.lemmas.List.Elements.{All-contains, All-head, All-tail, All-push, All-map, Contains-get_or, Contains-append_left, Contains-append_right}
use Rattle.std.proofs.lemmas.List.Sorted.{All-permutation, sum_by-IsPermutation, sorted_far, ranks_by}
use Rattle.network.specs.Schedule.{IsMinimalForbidden}
use Rattle.forbidden_sets.specs.MinimalSet.{AreDemands, AreShrunk, ComesBefore, IsMinimalSet, Demand}
use Rattle.network.specs.Problem.{Problem, demand, capacity}
use Rattle.std.proofs.lemmas.List.{length-map, take_more, length-drop, get_or-drop, get_or_default}
use Rattle.std.proofs.Math.Seq.{take-append_seam}
use Rattle.std.specs.Ordering.{ordering_then, nat_cmp, is_lt}
use Rattle.std.proofs.lemmas.Cmp.{nat_cmp_total, on_total, then_total}

-- ---- Rising lists of numbers: each number stands there once, and there are no more than the bound of the numbers.

-- whether x is v, as a number
abbrev pub hit : ℕ → ℕ → ℕ
hit v x = cond (eqb x v) 1 0

-- how often v stands in the list
abbrev pub times : ℕ → List ℕ → ℕ
times v xs = sum_by (hit v) xs

hit_same : (v x : ℕ) → x ≡ v → hit v x ≡ 1
hit_same v x e = grind (arith, nat_tests)

hit_below : (v x : ℕ) → v < x → hit v x ≡ 0
hit_below v x h = grind (arith, nat_tests)

hit_above : (v x : ℕ) → x < v → hit v x ≡ 0
hit_above v x h = grind (arith, nat_tests)

hit_le : (v x : ℕ) → hit v x ≤ 1
hit_le v x = grind (arith, nat_tests)

rising_tail : (x : ℕ) (xs : List ℕ) → IsStrictlyIncreasing (x ∷ xs) → IsStrictlyIncreasing xs
rising_tail x xs h k l =
    let step = h (suc k) (omega arith) in
    rw (add-one k) (rw (add-one (suc k)) at step)

rising_head : (x y : ℕ) (xs : List ℕ) → IsStrictlyIncreasing (x ∷ y ∷ xs) → x < y
rising_head x y xs h = h 0 (omega arith)

times_above : (v x : ℕ) (xs : List ℕ) → IsStrictlyIncreasing (x ∷ xs) → v ≤ x → times v xs ≡ 0
times_above v x [] h below = refl
times_above v x (y ∷ ys) h below =
    let less : x < y = rising_head x y ys h in
    let none : times v ys ≡ 0 = times_above v y ys (rising_tail x (y ∷ ys) h) (omega arith) in
    omega (arith, sum_by-cons (hit v) y ys, hit_below v y (omega arith))

pub times_once : (v : ℕ) (xs : List ℕ) → IsStrictlyIncreasing xs → times v xs ≤ 1
times_once v [] h = omega arith
times_once v (x ∷ xs) h =
    ⊎_elim
    (λ (below : x < v). let rest : times v xs ≤ 1 = times_once v xs (rising_tail x xs h) in omega (arith, sum_by-cons (hit v) x xs, hit_above v x below))
    (λ (above : v ≤ x). let rest : times v xs ≡ 0 = times_above v x xs h above in omega (arith, sum_by-cons (hit v) x xs, hit_le v x))
    (cases_lt x v)

-- numbers that do not fall and stand there once rise
pub rising_from_once : (xs : List ℕ) → IsNonDecreasing xs → ((v : ℕ) → times v xs ≤ 1) → IsStrictlyIncreasing xs
rising_from_once xs up once k l =
    ⊎_elim (λ (less : get_or xs k 0 < get_or xs (k + 1) 0). less)
    (λ (not_less : get_or xs (k + 1) 0 ≤ get_or xs k 0).
    let v : ℕ = get_or xs k 0 in
    let step : get_or xs k 0 ≤ get_or xs (k + 1) 0 = up k (k + 1) 0 (omega arith) l in
    let first = sum_by_more (hit v) xs k 0 (omega arith) in
    let second = sum_by_more (hit v) xs (k + 1) 0 l in
    let all = sum_by-take-le (hit v) xs (k + 1 + 1) in
    let here = hit_same v (get_or xs k 0) refl in
    let there = hit_same v (get_or xs (k + 1) 0) (omega arith) in
    absurd (omega (arith, once v)))
    (cases_lt (get_or xs k 0) (get_or xs (k + 1) 0))

place_le : (xs : List ℕ) (k : ℕ) → IsStrictlyIncreasing xs → k < length xs → k ≤ get_or xs k 0
place_le xs zero h l = omega arith
place_le xs (suc k) h l =
    let before : k ≤ get_or xs k 0 = place_le xs k h (omega arith) in
    let step : get_or xs k 0 < get_or xs (suc k) 0 = rw (add-one k) at (h k (omega arith)) in
    omega arith

-- rising numbers below n are at most n
pub length_rising : (xs : List ℕ) (n : ℕ) → IsStrictlyIncreasing xs → All (λ i. i < n) xs → length xs ≤ n
length_rising xs n h below =
    ⊎_elim (λ (less : n < length xs). let last = place_le xs n h less in let small = below n 0 less in absurd (omega (arith, last, small)))
    (λ (fine : length xs ≤ n). fine)
    (cases_lt n (length xs))

-- a proper part of a list misses the number of a member that it leaves out
filter_less : (r : ℕ → ℕ) (keep : ℕ → Bool) (x : ℕ) (xs : List ℕ)
    → sum_by r (cond (keep x) (x ∷ filter keep xs) (filter keep xs)) ≤ r x + sum_by r (filter keep xs)
filter_less r keep x xs = filter_less_by r (keep x) x (filter keep xs)
  where
    filter_less_by : (r : ℕ → ℕ) (b : Bool) (x : ℕ) (ys : List ℕ) → sum_by r (cond b (x ∷ ys) ys) ≤ r x + sum_by r ys
    filter_less_by r true x ys = omega (arith, sum_by-cons r x ys)
    filter_less_by r false x ys = omega arith

filter_le : (r : ℕ → ℕ) (keep : ℕ → Bool) (xs : List ℕ) → sum_by r (filter keep xs) ≤ sum_by r xs
filter_le r keep [] = omega arith
filter_le r keep (x ∷ xs) = omega (arith, sum_by-cons r x xs, filter_less r keep x xs, filter_le r keep xs)

-- at a place of the list
filter_misses : (r : ℕ → ℕ) (keep : ℕ → Bool) (xs : List ℕ) (k d : ℕ) → k < length xs → keep (get_or xs k d) ≡ false
    → sum_by r (filter keep xs) + r (get_or xs k d) ≤ sum_by r xs
filter_misses r keep [] k d l e = absurd (omega arith)
filter_misses r keep (x ∷ xs) zero d l e = rw e (omega (arith, sum_by-cons r x xs, filter_le r keep xs))
filter_misses r keep (x ∷ xs) (suc k) d l e = omega (arith, sum_by-cons r x xs, filter_less r keep x xs, filter_misses r keep xs k d (omega arith) e)

pub minimal_from_needed : (r : ℕ → ℕ) (R : ℕ) (xs : List ℕ) → All (λ i. sum_by r xs ≤ R + r i) xs
    → (keep : ℕ → Bool) (i : ℕ) → Contains xs i → keep i ≡ false → ¬ (R < sum_by r (filter keep xs))
minimal_from_needed r R xs needed keep i (k, l, e) out more =
    let there : keep (get_or xs k i) ≡ false = ap keep e ∙ out in
    let missing : sum_by r (filter keep xs) + r (get_or xs k i) ≤ sum_by r xs = filter_misses r keep xs k i l there in
    let bound : sum_by r xs ≤ R + r (get_or xs k i) = needed k i l in
    omega arith

-- the first i loads can be spared together: what is left needs `rest`
pub record AreSpared (capacity : ℕ) (loads : List Demand) (i rest : ℕ) : Type 0 where
  pub inside : i ≤ length loads
  pub balance : rest ≡ sum_by (λ load. load.demand) (drop i loads)
  pub over : capacity < rest

-- and no other can be spared
pub needed_after : (capacity : ℕ) (loads : List Demand) (i rest : ℕ) → AllPairs ComesBefore loads
    → AreSpared capacity loads i rest → (e : Demand) → (i < length loads → rest - (get_or loads i e).demand ≤ capacity)
    →
    All (λ load. sum_by (λ load. load.demand) (drop i loads) ≤ capacity + load.demand) (drop i loads)
needed_after capacity loads i rest order so_far e stop k d lt =
    let there : i + k < length loads = omega (arith, length-drop {A = Demand}) in
    let least : (get_or loads i d).demand ≤ (get_or loads (i + k) d).demand = least_first i (i + k) d (omega arith) there in
    let first : get_or loads i e ≡ get_or loads i d = get_or_default loads i e d (omega arith) in
    rw (get_or-drop i loads k d) (omega (arith, rw first at (stop (omega arith)), so_far.balance))
  where
    least_first : (i j : ℕ) (d : Demand) → i ≤ j → j < length loads → (get_or loads i d).demand ≤ (get_or loads j d).demand
    least_first i j d upto inside =
        ⊎_elim
        (λ (less : i < j). ⊎_elim (λ (below : (get_or loads i d).demand < (get_or loads j d).demand). omega arith)
        (λ (same : ((get_or loads i d).demand ≡ (get_or loads j d).demand)
        × ((get_or loads i d).activity ≤ (get_or loads j d).activity)). omega (arith, same.0))
        (order i j d less inside))
        (λ (not_less : j ≤ i). let e : i ≡ j = omega arith in rw e (omega arith))
        (cases_lt i j)

sum_by_map : {X : Type 0} (f : ℕ → ℕ) (g : X → ℕ) (xs : List X) → sum_by f (map g xs) ≡ sum_by (λ x. f (g x)) xs
sum_by_map f g [] = refl
sum_by_map f g (x ∷ xs) = omega (arith, sum_by_map f g xs, sum_by-cons f (g x) (map g xs), sum_by-cons (λ y. f (g y)) x xs)

pub sum_by_agree : {X : Type 0} (f g : X → ℕ) (xs : List X) → All (λ x. f x ≡ g x) xs → sum_by f xs ≡ sum_by g xs
sum_by_agree f g [] h = refl
sum_by_agree f g (x ∷ xs) h =
    omega (arith, All-head (λ y. f y ≡ g y) x xs h, sum_by_agree f g xs (All-tail (λ y. f y ≡ g y) x xs h), sum_by-cons f x xs, sum_by-cons g x xs)

-- a load that isn't spared is one of the loads, and the loads that aren't spared are a part of them
drop_within : (loads : List Demand) (i : ℕ) → All (Contains loads) (drop i loads)
drop_within loads i k d lt =
    let there : i + k < length loads = omega (arith, length-drop {A = Demand}) in
    rw (get_or-drop i loads k d) (Contains-get_or loads (i + k) d there)

drop_part : (loads : List Demand) (i : ℕ) (f : Demand → ℕ) → sum_by f (drop i loads) ≤ sum_by f loads
drop_part loads i f = omega (arith, sum_by-take-drop f loads i)

-- one more activity, which asks for some or for none
grows : (activities : List ℕ) (i : ℕ) → i < length activities → take (i + 1) activities ≡ take i activities ++ get_or activities i 0 ∷ []
grows activities i lt = take_more activities i 0 lt

Contains-more : (activities : List ℕ) (i v : ℕ) → i < length activities → Contains (take i activities) v → Contains (take (i + 1) activities) v
Contains-more activities i v lt has = rw (grows activities i lt) (Contains-append_left (take i activities) (get_or activities i 0 ∷ []) v has)

pub no_load : (r : ℕ → ℕ) (activities : List ℕ) (i : ℕ) (loads : List Demand) → i < length activities
    → r (get_or activities i 0) ≡ 0 → AreDemands r (take i activities) loads
    → AreDemands r (take (i + 1) activities) loads
no_load r activities i loads lt none are = record {
  among = λ k d l. Contains-more activities i (get_or loads k d).activity lt (are.among k d l);
  demands = are.demands;
  once = λ f. omega (arith, are.once f, sum_by_more f activities i 0 lt);
  total = omega (arith, are.total, sum_by_more r activities i 0 lt);
}

pub one_load : (r : ℕ → ℕ) (activities : List ℕ) (i demand : ℕ) (loads : List Demand) → i < length activities
    → demand ≡ r (get_or activities i 0) → AreDemands r (take i activities) loads →
    AreDemands r (take (i + 1) activities) (loads ++ (record { demand = demand; activity = get_or activities i 0 }) ∷ [])
one_load r activities i demand loads lt is are =
    let load : Demand = record { demand = demand; activity = get_or activities i 0 } in
    let last : Contains (take (i + 1) activities) (get_or activities i 0) =
    rw (grows activities i lt) (Contains-append_right (take i activities) (get_or activities i 0 ∷ []) (get_or activities i 0) (0, omega arith, refl)) in
    record {
      among = All-push (λ (load : Demand). Contains (take (i + 1) activities) load.activity) loads load
          (λ k d l. Contains-more activities i (get_or loads k d).activity lt (are.among k d l)) last;
      demands = All-push (λ (load : Demand). load.demand ≡ r load.activity) loads load are.demands is;
      once = λ f. omega (arith, are.once f, sum_by_more f activities i 0 lt, sum_by_push (λ (load : Demand). f load.activity) loads load);
      total = omega (arith, are.total, sum_by_more r activities i 0 lt, sum_by_push (λ (load : Demand). load.demand) loads load, is);
    }

-- there are no more of them
pub loads_few : (r : ℕ → ℕ) (activities : List ℕ) (loads : List Demand) → AreDemands r activities loads → length loads ≤ length activities
loads_few r activities loads are = omega (arith, are.once (λ i. 1), ones loads, ones activities)
  where
    ones : {X : Type 0} (xs : List X) → sum_by (λ x. 1) xs ≡ length xs
    ones [] = refl
    ones (x ∷ xs) = omega (arith, sum_by-cons (λ y. 1) x xs, ones xs)

-- loads in another order
pub AreDemands-permutation : (r : ℕ → ℕ) (activities : List ℕ) (loads other : List Demand) → IsPermutation loads other
    → AreDemands r activities loads → AreDemands r activities other
AreDemands-permutation r activities loads other moved are = record {
  among = All-permutation (λ (load : Demand). Contains activities load.activity) loads other moved are.among;
  demands = All-permutation (λ (load : Demand). load.demand ≡ r load.activity) loads other moved are.demands;
  once = λ f. omega (arith, are.once f, sum_by-IsPermutation (λ (load : Demand). f load.activity) loads other moved);
  total = sum_by-IsPermutation (λ (load : Demand). load.demand) loads other moved ∙ are.total;
}

-- a list of which all was lent and written over
pub written_whole : {X : Type 0} (old lent new : List X) → lent ≡ old → length new ≡ length lent → take (length old) (new ++ drop (length new) old) ≡ new
written_whole old lent new is long = rw (← is, ← long) (take-append_seam new (drop (length new) lent))

pub shrunk : (r : ℕ → ℕ) (capacity : ℕ) (running : List ℕ) (loads : List Demand) (i : ℕ) (members : List ℕ)
    → IsStrictlyIncreasing running
    → AreDemands r running loads
    → capacity < sum_by (λ load. load.demand) (drop i loads)
    → All (λ load. sum_by (λ load. load.demand) (drop i loads) ≤ capacity + load.demand) (drop i loads)
    → IsPermutation (map (λ load. load.activity) (drop i loads)) members
    → IsNonDecreasing members
    → AreShrunk r capacity running members
shrunk r capacity running loads i members rising are over needed moved up =
    let kept : List Demand = drop i loads in
    let within : All (Contains loads) (drop i loads) = drop_within loads i in
    let activity : Demand → ℕ = λ load. load.activity in
    let demand : Demand → ℕ = λ load. load.demand in
    let moved_sum : (f : ℕ → ℕ) → sum_by f members ≡ sum_by (λ load. f load.activity) kept = λ f.
    sum_by-IsPermutation f (map activity kept) members moved ∙ sum_by_map f activity kept in
    let kept_demands : All (λ load. r load.activity ≡ load.demand) kept = λ k d l.
    sym (All-contains (λ (load : Demand). load.demand ≡ r load.activity) loads (get_or kept k d) are.demands
    (within k d l)) in
    let total : sum_by r members ≡ sum_by demand kept = moved_sum r ∙ sum_by_agree (λ (load : Demand). r load.activity) demand kept kept_demands in
    record {
      run = All-permutation (Contains running) (map activity kept) members moved
          (All-map (Contains running) activity kept
          (λ k d l. All-contains (λ (load : Demand). Contains running load.activity) loads (get_or kept k d) are.among
          (within k d l)));
      rising = rising_from_once members up (λ v.
          omega (
            arith,
            moved_sum (hit v),
            drop_part loads i (λ load. hit v load.activity),
            are.once (hit v),
            times_once v running rising,
          ));
      forbidden = rw total over;
      needed = All-permutation (λ i. sum_by r members ≤ capacity + r i) (map activity kept) members moved
          (All-map (λ i. sum_by r members ≤ capacity + r i) activity kept
          (λ k d l. omega (arith, total, needed k d l, kept_demands k d l)));
    }

pub sum_of_demands : (r : ℕ → ℕ) (xs : List ℕ) → sum (map r xs) ≡ sum_by r xs
sum_of_demands r xs = sum-map r xs

-- the same, of the list of the demands
pub needed_demands : (r : ℕ → ℕ) (capacity : ℕ) (running members : List ℕ) → AreShrunk r capacity running members
    → All (λ demand. sum (map r members) ≤ capacity + demand) (map r members)
needed_demands r capacity running members shrunk =
    All-map (λ demand. sum (map r members) ≤ capacity + demand) r members (λ k d l. omega (arith, sum_of_demands r members, shrunk.needed k d l))

pub is_minimal_set : (resource capacity : ℕ) (r : ℕ → ℕ) (R : ℕ) (running numbers members demands : List ℕ)
    → AreShrunk r R running numbers → members ≡ numbers → demands ≡ map r numbers → capacity ≡ R
    → IsMinimalSet (record { resource = resource; capacity = capacity; members = members; demands = demands })
is_minimal_set resource capacity r R running numbers members demands shrunk em ed ec = record {
  rising = rw em shrunk.rising;
  paired = ap length ed ∙ length-map numbers r ∙ ap length (sym em);
  forbidden = omega (arith, shrunk.forbidden, ap sum ed, sum_of_demands r numbers);
  minimal = rw (ed, ec) (needed_demands r R running numbers shrunk);
}

pub is_minimal_forbidden : (P : Problem) (k : ℕ) (running members : List ℕ)
    → AreShrunk (demand P k) (capacity P k) running members → IsMinimalForbidden P k members
is_minimal_forbidden P k running members shrunk = record {
  rising = shrunk.rising;
  forbidden = shrunk.forbidden;
  minimal = minimal_from_needed (demand P k) (capacity P k) members shrunk.needed;
}

-- ---- Loads that are sorted come by rising demand, ties by rising number.

-- the order of loads: by demand, and then by activity
abbrev pub load_cmp : Demand → Demand → Ordering
load_cmp x y = ordering_then (nat_cmp x.demand y.demand) (nat_cmp x.activity y.activity)

not_less : (a b c d : ℕ) → is_lt (ordering_then (nat_cmp b a) (nat_cmp d c)) ≡ false → b ≤ a → (a ≡ b) × (c ≤ d)
not_less a b c d h le = (grind (arith, nat_tests), grind (arith, nat_tests))

pub sorted_by_demand : (loads : List Demand) → IsSorted load_cmp loads → AllPairs ComesBefore loads
sorted_by_demand loads sorted i j d early late =
    let x : Demand = get_or loads i d in
    let y : Demand = get_or loads j d in
    let far = sorted_far (λ x y. is_lt (load_cmp x y))
    (ranks_by (then_total (on_total (λ (l : Demand). l.demand) nat_cmp_total)
    (on_total (λ (l : Demand). l.activity) nat_cmp_total)) (λ l. l)) loads sorted i j d (omega arith) late in
    ⊎_elim
    (λ (less : x.demand < y.demand). inl less)
    (λ (more : y.demand ≤ x.demand). inr (not_less x.demand y.demand x.activity y.activity far more))
    (cases_lt x.demand y.demand)
