-- A sweep along both orders finds the first overload, and the overloads at every start time.
use Rattle.std.proofs.Common.{◌≡◌, Bool, true, false, cond, List, [], ◌∷◌, ◌++◌, map, refl, ℕ, zero, suc, ◌+◌, ◌<◌, ◌≤◌, length, get_or, take, ⊎_elim, arith}
use Rattle.std.proofs.Common.{sym, subst, ap, ◌∙◌, append-nil, SFits, w64, to_z, of_z, append_assoc, ℤ, pos, negsuc, ◌≤ℤ◌, ◌<ℤ◌, nat_lt, ◌↔◌}
use Rattle.std.specs.List.{AllByRecursion, filter, flat_map, sum_by, range_with_len}
use Rattle.std.proofs.lemmas.Bool.{cases_lt, le-ltb, ltb-false, lt-ltb}
use Rattle.std.proofs.lemmas.Int.{ints, by_lt_z, to_z-of_z}
use Rattle.std.proofs.lemmas.List.{get_or_default, take_more, map-append}
use Rattle.std.proofs.lemmas.List.Concat.{flat_map-append}
use Rattle.std.proofs.lemmas.List.Elements.{recursion_from_All, All-from_recursion}
use Rattle.std.proofs.lemmas.List.FromFn.{length-range_with_len, get_or-range_with_len}
use Rattle.network.specs.Problem.{Problem, activity_count, resource_count, capacity, demand, AreStarts, IsTime}
use Rattle.network.specs.Schedule.{start, running, use_at, IsWithinCapacitiesAt, IsWithinCapacities}
use Rattle.profile.specs.Overloads.{IsFirstOverload, start_times, overload_of, overloads_at, all_overloads, overloads_of, Overload}
use Rattle.profile.proofs.Uses.{rises_at_starts, RisesAt, filter_none, filter_range_yes, filter_range_no}
use Rattle.profile.proofs.RisingTimes.{Contains-start_times, start_times-rise, All-start_times}
use Rattle.profile.proofs.OrderLaws.{place_in}
use Rattle.profile.specs.Counts.{AreEnds, time_at, IsCount, HasPassed, HasCome, IsNextTime, IsSameOrder, CountsWithin, IsLeastOver, Count}
use Rattle.profile.proofs.Counted.{AreCounts, counts_further, used_is}

-- ---- Lists that are empty.

-- a filter that keeps nothing
pub filter_nil : {X : Type 0} (q : X → Bool) (xs : List X) → filter q xs ≡ [] → AllByRecursion (λ x. q x ≡ false) xs
filter_nil q [] h = tt
filter_nil q (x ∷ xs) h = one (q x) refl h (filter_nil q xs)
  where
    one : (b : Bool) → q x ≡ b → cond b (x ∷ filter q xs) (filter q xs) ≡ []
        → (filter q xs ≡ [] → AllByRecursion (λ y. q y ≡ false) xs) → (q x ≡ false)
        × AllByRecursion (λ y. q y ≡ false) xs
    one true e k rest = absurd (cc)
    one false e k rest = (e, rest k)

pub map_nil : {X Y : Type 0} (f : X → Y) (xs : List X) → map f xs ≡ [] → xs ≡ []
map_nil f [] h = refl
map_nil f (x ∷ xs) h = absurd (cc)

pub append_nil_left : {X : Type 0} (xs ys : List X) → xs ++ ys ≡ [] → xs ≡ []
append_nil_left [] ys h = refl
append_nil_left (x ∷ xs) ys h = absurd (cc)

pub append_nil_right : {X : Type 0} (xs ys : List X) → xs ++ ys ≡ [] → ys ≡ []
append_nil_right [] ys h = h
append_nil_right (x ∷ xs) ys h = absurd (cc)

pub flat_map_nil : {X Y : Type 0} (f : X → List Y) (xs : List X) → flat_map f xs ≡ [] → AllByRecursion (λ x. f x ≡ []) xs
flat_map_nil f [] h = tt
flat_map_nil f (x ∷ xs) h = (append_nil_left (f x) (flat_map f xs) h, flat_map_nil f xs (append_nil_right (f x) (flat_map f xs) h))

pub nil_flat_map : {X Y : Type 0} (f : X → List Y) (xs : List X) → AllByRecursion (λ x. f x ≡ []) xs → flat_map f xs ≡ []
nil_flat_map f [] h = refl
nil_flat_map f (x ∷ xs) h = rw (h.0, nil_flat_map f xs h.1) refl

-- ---- The start times up to one have no overload, so no earlier unit of time has one.

-- ---- where a sweep stands

-- the time after so many start times, which before the first is one before all starts
abbrev pub time_after : List ℤ → ℕ → ℤ
time_after times zero = negsuc 9999999999
time_after times (suc n) = get_or times n (pos 0)

-- the next start time is later
pub next_later : (p : Problem) (s : List ℤ) (n : ℕ) (d : ℤ) → AreStarts p s → n < length (start_times s)
    → time_after (start_times s) n ≤ℤ get_or (start_times s) n d
next_later p s zero d are lt = let within = All-start_times IsTime s are.within 0 d lt in let above = within.at_least in omega (arith, ints)
next_later p s (suc n) d are lt =
    let rise = start_times-rise s n (suc n) (pos 0) (omega arith) lt in
    let same = get_or_default (start_times s) (suc n) d (pos 0) lt in
    rw same (omega (arith, ints))

pub time_moves : (s : List ℤ) (n : ℕ) (t : ℤ) → t ≡ get_or (start_times s) n (pos 0) → t ≡ time_after (start_times s) (n + 1)
time_moves s n t at = let e : n + 1 ≡ suc n = omega arith in at ∙ ap (time_after (start_times s)) (sym e)

-- the start time that the loop reads, as the code holds it
pub item_is : (items times : List ℤ) (n : ℕ) → SFits w64 (get_or items n (pos 0)) → items ≡ times
    → to_z w64 (of_z w64 (get_or items n (pos 0))) ≡ get_or times n (pos 0)
item_is items times n fits is = to_z-of_z w64 (get_or items n (pos 0)) fits ∙ ap (λ (xs : List ℤ). get_or xs n (pos 0)) is

-- what is past at the last start time is past at the next one
pub still_past : (p : Problem) (s items : List ℤ) (n : ℕ) (x : ℤ) → AreStarts p s → items ≡ start_times s
    → n < length items → SFits w64 (get_or items n (pos 0)) → x ≤ℤ time_after (start_times s) n
    → x ≤ℤ to_z w64 (of_z w64 (get_or items n (pos 0)))
still_past p s items n x are is lt fits past =
    let later = next_later p s n (pos 0) are (rw is at lt) in
    rw (item_is items (start_times s) n fits is) (omega (arith, ints))

-- ---- no overload at start times, and at any time

-- if no start up to u has an overload, u has none
-- the first overload is at a start
pub first_is_time : (p : Problem) (s : List ℤ) (t : ℤ) (k : ℕ) → AreStarts p s → IsFirstOverload p s t k → IsTime t
first_is_time p s t k are first =
    let over = first.least_resource.overloaded in
    ⊎_elim
    (λ (none : running p s t ≡ []). let zero_use : use_at p s k t ≡ 0 = ap (sum_by (demand p k)) none in absurd (omega arith))
    (λ (some : (i : ℕ) × RisesAt p s t i).
    by_lt_z (start s some.0) t
    (λ earlier. let none = first.before (start s some.0) earlier k first.least_resource.in_range in let rise = some.1.2 k in absurd (omega (arith, none, rise)))
    (λ later.
    let within : IsTime (start s some.0) = are.within some.0 (pos 0) (omega (arith, some.1.0, are.count)) in
    let early = some.1.1 in
    let same : start s some.0 ≡ t = omega (arith, ints, early, later) in
    subst IsTime same within))
    (rises_at_starts p s t)

pub none_at : (p : Problem) (s : List ℤ) (u : ℤ)
    → ((j : ℕ) → j < activity_count p → start s j ≤ℤ u → IsWithinCapacitiesAt p s (start s j))
    → IsWithinCapacitiesAt p s u
none_at p s u h k in_range =
    ⊎_elim
    (λ (none : running p s u ≡ []). let zero_use : use_at p s k u ≡ 0 = ap (sum_by (demand p k)) none in omega arith)
    (λ (some : (i : ℕ) × RisesAt p s u i). let at = h some.0 some.1.0 some.1.1 k in let rise = some.1.2 k in omega (arith, at, rise))
    (rises_at_starts p s u)

-- the start times below n have no overload
abbrev pub NoneBelow : Problem → List ℤ → ℕ → Type 0
NoneBelow p s n = (j : ℕ) → j < n → IsWithinCapacitiesAt p s (get_or (start_times s) j (pos 0))

-- so no unit of time before the others has one
none_before : (p : Problem) (s : List ℤ) (n : ℕ) (u : ℤ) → AreStarts p s → NoneBelow p s n
    → ((k : ℕ) → n ≤ k → k < length (start_times s) → u <ℤ get_or (start_times s) k (pos 0))
    → IsWithinCapacitiesAt p s u
none_before p s n u are none later =
    none_at p s u (λ j l not_later.
    let inside : j < length s = omega (arith, are.count) in
    let there = Contains-start_times s (start s j) (j, inside, get_or_default s j (start s j) (pos 0) inside) in
    let is : get_or (start_times s) there.0 (pos 0) ≡ start s j = get_or_default (start_times s) there.0 (pos 0) (start s j) there.1 ∙ there.2 in
    ⊎_elim
    (λ (below : there.0 < n). rw is at (none there.0 below))
    (λ (above : n ≤ there.0). let after : u <ℤ start s j = rw is at (later there.0 above there.1) in absurd (omega (arith, ints)))
    (cases_lt there.0 n))

none_at_all : (p : Problem) (s : List ℤ) (n : ℕ) → AreStarts p s → length (start_times s) ≤ n → NoneBelow p s n → IsWithinCapacities p s
none_at_all p s n are all none = λ t. none_before p s n t are none (λ k above lt. absurd (omega arith))

-- ---- the list of overloads is empty where there is none

none_listed : (p : Problem) (s : List ℤ) (t : ℤ) → overloads_at p s t ≡ [] → IsWithinCapacitiesAt p s t
none_listed p s t h k in_range =
    let over : ℕ → Bool = λ j. nat_lt (capacity p j) (use_at p s j t) in
    let fails = filter_nil over (range_with_len 0 (resource_count p))
    (map_nil (overload_of t (λ j. use_at p s j t)) (filter over (range_with_len 0 (resource_count p))) h) in
    let at = All-from_recursion (λ j. over j ≡ false) (range_with_len 0 (resource_count p)) fails k 0
    (omega (arith, length-range_with_len 0 (resource_count p))) in
    let place = get_or-range_with_len 0 (resource_count p) k 0 in_range in
    let index : get_or (range_with_len 0 (resource_count p)) k 0 ≡ k = omega (arith, place) in
    ltb-false (capacity p k) (use_at p s k t) (rw index at at)

none_to_list : (p : Problem) (s : List ℤ) (t : ℤ) → IsWithinCapacitiesAt p s t → overloads_at p s t ≡ []
none_to_list p s t h =
    ap (map (overload_of t (λ j. use_at p s j t)))
    (filter_none (λ j. nat_lt (capacity p j) (use_at p s j t)) 0 (resource_count p)
    (λ j lt. le-ltb (capacity p j) (use_at p s j t) (h j (omega arith))))

pub overloads_none : (p : Problem) (s : List ℤ) → AreStarts p s → (all_overloads p s ≡ []) ↔ IsWithinCapacities p s
overloads_none p s are = (
  λ h. none_at_all p s (length (start_times s)) are (omega arith) (λ j below.
      none_listed p s (get_or (start_times s) j (pos 0))
      (All-from_recursion (λ t. overloads_at p s t ≡ []) (start_times s)
      (flat_map_nil (overloads_at p s) (start_times s) h) j (pos 0) below)),
  λ h. nil_flat_map (overloads_at p s) (start_times s)
      (recursion_from_All (λ t. overloads_at p s t ≡ []) (start_times s)
      (λ j d lt. none_to_list p s (get_or (start_times s) j d) (h (get_or (start_times s) j d)))),
)

-- the overloads at one more start time
pub overloads_more : (p : Problem) (s : List ℤ) (n : ℕ) (t : ℤ) (es fs : List Overload) → n < length (start_times s)
    → t ≡ get_or (start_times s) n (pos 0) → es ≡ flat_map (overloads_at p s) (take n (start_times s))
    → fs ≡ es ++ overloads_at p s t →
    fs ≡ flat_map (overloads_at p s) (take (n + 1) (start_times s))
overloads_more p s n t es fs lt at is more =
    rw (
      take_more (start_times s) n (pos 0) lt,
      flat_map-append (overloads_at p s) (take n (start_times s)) (get_or (start_times s) n (pos 0) ∷ []),
      more,
      is,
      at,
    )
    (ap (λ (xs : List Overload). flat_map (overloads_at p s) (take n (start_times s)) ++ xs)
    (sym (append-nil (overloads_at p s (get_or (start_times s) n (pos 0))))))

-- no start time that was counted has an overload
pub record IsSwept (p : Problem) (started ended : Count) : Type 0 where
  pub are_ends : AreEnds p started.times.items ended.times.items
  pub starts : IsCount p started
  pub ends : IsCount p ended
  pub ends_past : started.passed < length started.order.items → HasPassed ended (time_at started started.passed)
  pub none : (i : ℕ) → i < started.passed → IsWithinCapacitiesAt p started.times.items (time_at started i)

-- the sweep goes on to the next start time, t
pub record GoesOn (p : Problem) (t : ℤ) (before was started ended : Count) : Type 0 where
  pub swept : IsSwept p before was
  pub next : IsNextTime before t
  pub same : IsSameOrder before started
  pub are : AreCounts p t started ended

pub goes_on : (p : Problem) (time t : ℤ) (before was started ended : Count) → IsSwept p before was
    → IsNextTime before time → t ≡ time → IsSameOrder before started → IsSameOrder was ended →
    IsCount p started → HasCome started t → IsCount p ended → HasCome ended t → GoesOn p t before was started ended
goes_on p time t before was started ended swept next at same ends_same starts starts_come ends ends_come = record {
  swept = swept;
  next = record { some = next.some; is = at ∙ next.is };
  same = same;
  are = counts_further p t before was started ended swept.are_ends same ends_same starts starts_come ends ends_come;
}

pub none_here : (p : Problem) (t : ℤ) (started ended : Count) → AreCounts p t started ended
    → CountsWithin p started.totals.items ended.totals.items → IsWithinCapacitiesAt p started.times.items t
none_here p t started ended are within k in_range = omega (arith, within k in_range, used_is p t started ended are k in_range)

pub swept_further : (p : Problem) (t : ℤ) (before was started ended : Count) →
    GoesOn p t before was started ended → CountsWithin p started.totals.items ended.totals.items → IsSwept p started ended
swept_further p t before was started ended on within =
    let are = on.are in
    let same = on.same in
    let none = none_here p t started ended are within in
    record {
      are_ends = are.are_ends;
      starts = are.starts;
      ends = are.ends;
      ends_past = λ some i lt.
          let early : time_at ended i ≤ℤ t = are.ends_come.past i lt in
          let late : t <ℤ time_at started started.passed = are.starts_come.future some in
          omega (arith, ints);
      none = λ i lt. ⊎_elim
          (λ (first : i < before.passed). rw (same.times, same.order) (on.swept.none i first))
          (λ (more : before.passed ≤ i).
          let at : t ≡ time_at started before.passed = rw (same.times, same.order) on.next.is in
          let up : time_at started before.passed ≤ℤ time_at started i = are.starts.rises before.passed i more (let inside = are.starts.inside in omega arith) in
          let down : time_at started i ≤ℤ t = are.starts_come.past i lt in
          let here : t ≡ time_at started i = omega (arith, ints, at) in
          subst (IsWithinCapacitiesAt p started.times.items) here none)
          (cases_lt i before.passed);
    }

-- no unit of time before the next start has an overload
none_earlier : (p : Problem) (started ended : Count) (u : ℤ) → IsSwept p started ended
    → (started.passed < length started.order.items → u <ℤ time_at started started.passed)
    → IsWithinCapacitiesAt p started.times.items u
none_earlier p started ended u swept later =
    none_at p started.times.items u (λ j lt not_later.
    let place = place_in (activity_count p) started.order.items swept.starts.sized.is_order j lt in
    let is : time_at started place.0 ≡ start started.times.items j = ap (start started.times.items) place.2 in
    ⊎_elim
    (λ (below : place.0 < started.passed). rw is at (swept.none place.0 below))
    (λ (above : started.passed ≤ place.0).
    let there : place.0 < length started.order.items = place.1 in
    let next : u <ℤ time_at started started.passed = later (omega arith) in
    let up : time_at started started.passed ≤ℤ time_at started place.0 = swept.starts.rises started.passed place.0 above there in
    absurd (omega (arith, ints, is)))
    (cases_lt place.0 started.passed))

pub swept_none : (p : Problem) (started ended : Count) → IsSwept p started ended
    → length started.order.items ≤ started.passed → IsWithinCapacities p started.times.items
swept_none p started ended swept all = λ u. none_earlier p started ended u swept (λ some. absurd (omega arith))

pub swept_first : (p : Problem) (t : ℤ) (before was started ended : Count) (k : ℕ) →
    GoesOn p t before was started ended → IsLeastOver p started.totals.items ended.totals.items k → IsFirstOverload p started.times.items t k
swept_first p t before was started ended k on least = record {
  least_resource = record {
    in_range = least.in_range;
    overloaded = omega (arith, least.over, used_is p t started ended on.are k least.in_range);
    below = λ j lt. omega (arith, least.below j lt, used_is p t started ended on.are j (let in_range = least.in_range in omega arith));
  };
  before = λ u earlier. rw on.same.times (none_earlier p before was u on.swept (λ some. omega (arith, ints, on.next.is)));
}

-- ---- The list of overloads, as it grows.

-- of the first resources
abbrev pub first_overloads : Problem → ℤ → (ℕ → ℕ) → ℕ → List Overload
first_overloads p t use_of n = map (overload_of t use_of) (filter (λ k. nat_lt (capacity p k) (use_of k)) (range_with_len 0 n))

pub overload_more : (p : Problem) (t u : ℤ) (use_of : ℕ → ℕ) (k used limit : ℕ) (before es fs : List Overload)
    → es ≡ before ++ first_overloads p t use_of k → fs ≡ es ++ (record { time = u; resource = k; used = used }) ∷ []
    → u ≡ t → used ≡ use_of k → limit ≡ capacity p k → limit < used →
    fs ≡ before ++ first_overloads p t use_of (k + 1)
overload_more p t u use_of k used limit before es fs is more same_time same_use same_limit over =
    let test = λ (j : ℕ). nat_lt (capacity p j) (use_of j) in
    let yes : test k ≡ true = lt-ltb (capacity p k) (use_of k) (omega arith) in
    let grown = ap (map (overload_of t use_of)) (filter_range_yes test k yes) ∙ map-append (overload_of t use_of) (filter test (range_with_len 0 k)) (k ∷ []) in
    rw (grown, more, is, same_time, same_use) (append_assoc before (first_overloads p t use_of k) (overload_of t use_of k ∷ []))

pub overload_none : (p : Problem) (t : ℤ) (use_of : ℕ → ℕ) (k used limit : ℕ) (before es : List Overload)
    → es ≡ before ++ first_overloads p t use_of k → used ≡ use_of k → limit ≡ capacity p k → used ≤ limit →
    es ≡ before ++ first_overloads p t use_of (k + 1)
overload_none p t use_of k used limit before es is same_use same_limit within =
    let test = λ (j : ℕ). nat_lt (capacity p j) (use_of j) in
    let no : test k ≡ false = le-ltb (capacity p k) (use_of k) (omega arith) in
    rw (filter_range_no test k no) is

-- uses that agree give the same list
pub overloads_same : (p : Problem) (t : ℤ) (f g : ℕ → ℕ) → ((k : ℕ) → k < resource_count p → f k ≡ g k) → overloads_of p t f ≡ overloads_of p t g
overloads_same p t f g same = from 0 (resource_count p) (λ k lt. same k (omega arith))
  where
    one : (b : Bool) (k : ℕ) (xs ys : List ℕ) → f k ≡ g k → map (overload_of t f) xs ≡ map (overload_of t g) ys
        → map (overload_of t f) (cond b (k ∷ xs) xs) ≡ map (overload_of t g) (cond b (k ∷ ys) ys)
    one true k xs ys here rest = rw (here, rest) refl
    one false k xs ys here rest = rest

    from : (a n : ℕ) → ((k : ℕ) → k < a + n → f k ≡ g k)
        → map (overload_of t f) (filter (λ k. nat_lt (capacity p k) (f k)) (range_with_len a n)) ≡ map (overload_of t g)
        (filter (λ k. nat_lt (capacity p k) (g k)) (range_with_len a n))
    from a zero agree = refl
    from a (suc n) agree =
        let here : f a ≡ g a = agree a (omega arith) in
        let rest = from (a + 1) n (λ k lt. agree k (omega arith)) in
        rw here (one (nat_lt (capacity p a) (g a)) a
        (filter (λ k. nat_lt (capacity p k) (f k)) (range_with_len (a + 1) n))
        (filter (λ k. nat_lt (capacity p k) (g k)) (range_with_len (a + 1) n)) here rest)
