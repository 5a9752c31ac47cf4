-- What has started less what has ended, counted along two orders, is what is in use.
use Rattle.std.proofs.Common.{ℕ, zero, suc, ◌≤◌, List, [], ◌∷◌, get_or, arith, ◌≡◌, ◌+◌, ◌<◌, Bool, true, false, cond, ◌&&◌, length, take, drop, replicate}
use Rattle.std.proofs.Common.{refl, sym, ap, ◌∙◌, ℤ, pos, ◌≤ℤ◌, unsigned_abs, negsuc, ◌+ℤ◌, ◌<ℤ◌, int_le, int_lt}
use Rattle.std.specs.List.{All, AllByRecursion, sum_by, filter}
use Rattle.std.proofs.lemmas.Int.{ints, by_lt_z}
use Rattle.std.proofs.lemmas.List.Elements.{recursion_from_All, All-from_get_or}
use Rattle.network.specs.Problem.{Problem, duration, demand, IsProject, IsAmount, activity_count, activities, resource_count, AreStarts}
use Rattle.network.specs.declared.limits.TheConstants.{MAX_AMOUNT, MAX_ACTIVITIES}
use Rattle.std.proofs.lemmas.List.{get_or-take, get_or-drop, get_or-replicate, length-take, length-drop, length-replicate, get_or_default, with_items_is}
use Rattle.std.proofs.lemmas.List.Sums.{sum_by-cons, sum_by-take-drop, sum_by-take-le, sum_by-le, sum_by_more}
use Rattle.std.specs.Global.{Vec}
use Rattle.std.specs.Vec.{with_items}
use Rattle.std.specs.List.Sorted.{IsPermutation}
use Rattle.std.proofs.lemmas.List.Sorted.{sum_by-IsPermutation, IsPermutation-trans}
use Rattle.network.specs.Schedule.{start, is_running, use_at}
use Rattle.profile.specs.Orders.{HaveKeys, Rises}
use Rattle.profile.proofs.OrderLaws.{order_long, order_inside, have_keys}
use Rattle.profile.specs.Counts.{end_time, AreEnds, HasRoomFor, time_at, IsCount, HasCome, IsSameOrder, AreReady, AddsDemands, EndsLess, counted_use, Count}

-- ---- Durations and demands are within the limits.

-- what holds of each element and of the default holds at each index
get_or-all : {X : Type 0} (P : X → Type 0) (xs : List X) (d : X) → AllByRecursion P xs → P d → (i : ℕ) → P (get_or xs i d)
get_or-all P [] d all h i = h
get_or-all P (x ∷ xs) d all h zero = all.0
get_or-all P (x ∷ xs) d all h (suc i) = get_or-all P xs d all.1 h i

abs_small : (z : ℤ) → IsAmount z → unsigned_abs z ≤ unsigned_abs MAX_AMOUNT
abs_small z h = let low = h.at_least in let high = h.at_most in omega (arith, ints)

zero_amount : IsAmount (pos 0)
zero_amount = record { at_least = omega (arith, ints); at_most = omega (arith, ints) }

-- a demand is within the limits
pub demand_small : (p : Problem) → IsProject p → (k i : ℕ) → demand p k i ≤ unsigned_abs MAX_AMOUNT
demand_small p is k i =
    let row = get_or-all (All IsAmount) p.demands [] (recursion_from_All (All IsAmount) p.demands is.demands_fit) (λ j d lt. absurd (omega arith)) i in
    abs_small (get_or (get_or p.demands i []) k (pos 0))
    (get_or-all IsAmount (get_or p.demands i []) (pos 0) (recursion_from_All IsAmount (get_or p.demands i []) row) zero_amount k)

pub duration_nonnegative : (p : Problem) → IsProject p → (i : ℕ) → pos 0 ≤ℤ duration p i
duration_nonnegative p is i = (get_or-all IsAmount p.durations (pos 0) (recursion_from_All IsAmount p.durations is.durations_fit) zero_amount i).at_least

-- ---- sums over the elements that pass a test

-- the terms of those that pass
abbrev kept : {X : Type 0} → (X → Bool) → (X → ℕ) → X → ℕ
kept q f x = cond (q x) (f x) 0

sum_by-filter : {X : Type 0} (q : X → Bool) (f : X → ℕ) (xs : List X) → sum_by f (filter q xs) ≡ sum_by (kept q f) xs
sum_by-filter q f [] = refl
sum_by-filter q f (x ∷ xs) = one (q x) (sum_by-filter q f xs) ∙ sym (sum_by-cons (kept q f) x xs)
  where
    one : (b : Bool) → sum_by f (filter q xs) ≡ sum_by (kept q f) xs → sum_by f (cond b (x ∷ filter q xs) (filter q xs)) ≡ cond b (f x) 0 + sum_by (kept q f) xs
    one true rest = sum_by-cons f x (filter q xs) ∙ ap (λ n. f x + n) rest
    one false rest = omega (arith, rest)

sum_by-passing : {X : Type 0} (q : X → Bool) (f : X → ℕ) (xs : List X) → AllByRecursion (λ x. q x ≡ true) xs → sum_by (kept q f) xs ≡ sum_by f xs
sum_by-passing q f [] all = refl
sum_by-passing q f (x ∷ xs) all =
    let here : kept q f x ≡ f x = ap (λ b. cond b (f x) 0) all.0 in
    omega (arith, sum_by-cons (kept q f) x xs, sum_by-cons f x xs, here, sum_by-passing q f xs all.1)

sum_by-failing : {X : Type 0} (q : X → Bool) (f : X → ℕ) (xs : List X) → AllByRecursion (λ x. q x ≡ false) xs → sum_by (kept q f) xs ≡ 0
sum_by-failing q f [] all = refl
sum_by-failing q f (x ∷ xs) all =
    let here : kept q f x ≡ 0 = ap (λ b. cond b (f x) 0) all.0 in
    omega (arith, sum_by-cons (kept q f) x xs, here, sum_by-failing q f xs all.1)

sum_by-split : {X : Type 0} (f g h : X → ℕ) (xs : List X) → ((x : X) → f x + g x ≡ h x) → sum_by f xs + sum_by g xs ≡ sum_by h xs
sum_by-split f g h [] each = refl
sum_by-split f g h (x ∷ xs) each =
    omega (arith, sum_by-cons f x xs, sum_by-cons g x xs, sum_by-cons h x xs, each x, sum_by-split f g h xs each)

has_come : (a t : ℤ) → a ≤ℤ t → int_le a t ≡ true
has_come a t h = grind (arith, ints)

will_come : (a t : ℤ) → t <ℤ a → int_le a t ≡ false
will_come a t h = grind (arith, ints)

one_activity : (s d t : ℤ) (r : ℕ) → pos 0 ≤ℤ d → cond (int_le s t && int_lt t (s +ℤ d)) r 0 + cond (int_le (s +ℤ d) t) r 0 ≡ cond (int_le s t) r 0
one_activity s d t r h =
    by_lt_z t (s +ℤ d)
    (λ runs.
    let ended : int_le (s +ℤ d) t ≡ false = will_come (s +ℤ d) t runs in
    let on : int_lt t (s +ℤ d) ≡ true = grind (arith, ints) in
    rw (ended, on) (started (int_le s t) r))
    (λ over.
    let ended : int_le (s +ℤ d) t ≡ true = has_come (s +ℤ d) t over in
    let on : int_lt t (s +ℤ d) ≡ false = grind (arith, ints) in
    let began : int_le s t ≡ true = has_come s t (omega (arith, ints)) in
    rw (ended, on, began) (omega arith))
  where
    started : (b : Bool) (r : ℕ) → cond (b && true) r 0 + 0 ≡ cond b r 0
    started true r = omega arith
    started false r = refl

-- ---- one activity more is counted

-- the activity at a place of the order is one of the project's
pub activity_at : (p : Problem) (c : Count) → HasRoomFor p c → (place : ℕ) → place < length c.order.items → get_or c.order.items place 0 < activity_count p
activity_at p c sized place lt = order_inside (activity_count p) c.order.items sized.is_order place 0 lt

-- each activity has a time
pub have_times : (p : Problem) (c : Count) → HasRoomFor p c → HaveKeys c.times.items c.order.items
have_times p c sized = have_keys (activity_count p) c.times.items c.order.items sized.each sized.is_order

pub count_more : (p : Problem) (c new : Count) → IsCount p c → c.passed < length c.order.items → new.times ≡ c.times
    → new.order ≡ c.order → new.passed ≡ c.passed + 1 → length new.totals.items ≡ length c.totals.items →
    AddsDemands p (get_or c.order.items c.passed 0) c.totals.items new.totals.items → IsCount p new
count_more p c new is lt times order next long more = record {
  limits = is.limits;
  sized = record {
    is_order = rw order is.sized.is_order;
    each = rw times is.sized.each;
    columns = long ∙ is.sized.columns;
  };
  rises = rw (times, order) is.rises;
  inside = rw order (omega (arith, next));
  sums = λ k in_range. rw (order, next) (omega (arith, more k in_range, is.sums k in_range, sum_by_more (demand p k) c.order.items c.passed 0 lt));
}

pub counts_small : (p : Problem) (c : Count) → IsCount p c → All (λ total. total ≤ 2000000000) c.totals.items
counts_small p c is =
    let order = c.order.items in
    All-from_get_or (λ total. total ≤ 2000000000) c.totals.items 0 (λ k lt.
    let each : All (λ i. demand p k i ≤ unsigned_abs MAX_AMOUNT) order = λ j d l. demand_small p is.limits k (get_or order j d) in
    let few : activity_count p ≤ MAX_ACTIVITIES = is.limits.activity_limit in
    omega (
      arith,
      is.sums k (rw is.sized.columns at lt),
      sum_by-take-le (demand p k) order c.passed,
      sum_by-le (demand p k) (unsigned_abs MAX_AMOUNT) order each,
      order_long (activity_count p) order is.sized.is_order,
    ))

-- ---- the totals by activity

pub come_total : (p : Problem) (at : ℕ → ℤ) (c : Count) (t : ℤ) → IsCount p c → HasCome c t →
    ((i : ℕ) → i < activity_count p → get_or c.times.items i (pos 0) ≡ at i) → (k : ℕ) → k < resource_count p
    → get_or c.totals.items k 0 ≡ sum_by (kept (λ i. int_le (at i) t) (demand p k)) (activities p)
come_total p at c t is come times_are k in_range =
    let order = c.order.items in
    let test : ℕ → Bool = λ i. int_le (at i) t in
    let f = demand p k in
    let inside = order_inside (activity_count p) order is.sized.is_order in
    let time_is : (i d : ℕ) → i < length order → time_at c i ≡ at (get_or order i d) = λ i d lt.
    times_are (get_or order i 0) (inside i 0 lt) ∙ ap at (get_or_default order i 0 d lt) in
    let past : AllByRecursion (λ i. test i ≡ true) (take c.passed order) =
    recursion_from_All (λ i. test i ≡ true) (take c.passed order) (λ j d lt.
    let below : j < c.passed = omega (arith, length-take {A = ℕ}) in
    let there : j < length order = omega (arith, is.inside) in
    rw (get_or-take c.passed order j d below) (has_come (at (get_or order j d)) t (rw (time_is j d there) at (come.past j below)))) in
    let future : AllByRecursion (λ i. test i ≡ false) (drop c.passed order) =
    recursion_from_All (λ i. test i ≡ false) (drop c.passed order) (λ j d lt.
    let there : c.passed + j < length order = omega (arith, length-drop {A = ℕ}) in
    let next : t <ℤ time_at c c.passed = come.future (omega arith) in
    let later : time_at c c.passed ≤ℤ time_at c (c.passed + j) = is.rises c.passed (c.passed + j) (omega arith) there in
    let after : t <ℤ time_at c (c.passed + j) = omega (arith, ints) in
    rw (get_or-drop c.passed order j d) (will_come (at (get_or order (c.passed + j) d)) t (rw (time_is (c.passed + j) d there) at after))) in
    let front = sum_by-passing test f (take c.passed order) past in
    let back = sum_by-failing test f (drop c.passed order) future in
    let whole = sum_by-take-drop (kept test f) order c.passed in
    let moved = sum_by-IsPermutation (kept test f) (activities p) order is.sized.is_order in
    omega (arith, is.sums k in_range, front, back, whole, moved)

-- two counts up to a time: by the starts, and by the ends
pub record AreCounts (p : Problem) (t : ℤ) (started ended : Count) : Type 0 where
  pub are_ends : AreEnds p started.times.items ended.times.items
  pub starts : IsCount p started
  pub starts_come : HasCome started t
  pub ends : IsCount p ended
  pub ends_come : HasCome ended t

-- both counts go on to a time
pub counts_further : (p : Problem) (t : ℤ) (before was started ended : Count)
    → AreEnds p before.times.items was.times.items → IsSameOrder before started → IsSameOrder was ended →
    IsCount p started → HasCome started t → IsCount p ended → HasCome ended t → AreCounts p t started ended
counts_further p t before was started ended are_ends starts_same ends_same starts starts_come ends ends_come = record {
  are_ends = rw (starts_same.times, ends_same.times) are_ends;
  starts = starts;
  starts_come = starts_come;
  ends = ends;
  ends_come = ends_come;
}

pub used_is : (p : Problem) (t : ℤ) (started ended : Count) → AreCounts p t started ended →
    (k : ℕ) → k < resource_count p → use_at p started.times.items k t + get_or ended.totals.items k 0 ≡ get_or started.totals.items k 0
used_is p t started ended are k in_range =
    let s = started.times.items in
    let in_use = sum_by-filter (is_running p s t) (demand p k) (activities p) in
    let begun = come_total p (start s) started t are.starts are.starts_come (λ i lt. refl) k in_range in
    let done = come_total p (end_time p s) ended t are.ends are.ends_come are.are_ends.each k in_range in
    let split = sum_by-split (kept (is_running p s t) (demand p k)) (kept (λ i. int_le (end_time p s i) t) (demand p k))
    (kept (λ i. int_le (start s i) t) (demand p k)) (activities p)
    (λ i. one_activity (start s i) (duration p i) t (demand p k i) (duration_nonnegative p are.starts.limits i)) in
    omega (arith, in_use, begun, done, split)

-- so no more has ended than has started
pub ended_less : (p : Problem) (t : ℤ) (started ended : Count) → AreCounts p t started ended → EndsLess p started.totals.items ended.totals.items
ended_less p t started ended are k in_range = omega (arith, used_is p t started ended are k in_range)

-- what is counted is what is in use
pub counted_is : (p : Problem) (t : ℤ) (started ended : Count) → AreCounts p t started ended →
    (k : ℕ) → k < resource_count p → counted_use started.totals.items ended.totals.items k ≡ use_at p started.times.items k t
counted_is p t started ended are k in_range = omega (arith, used_is p t started ended are k in_range)

-- ---- where nothing is counted yet

-- a vector whose items were all written over
pub written : (v : Vec ℤ) (old new : List ℤ) → length new ≡ length old → old ≡ v.items → (with_items v new).items ≡ new
written v old new long are = with_items_is v new (long ∙ ap (λ (xs : List ℤ). length xs) are ∙ sym v.ok.0)

pub count_none : (p : Problem) (old new : Count) → IsProject p → HasRoomFor p old
    → IsPermutation old.order.items new.order.items → Rises new.times.items new.order.items
    → length new.times.items ≡ activity_count p → new.passed ≡ 0
    → new.totals.items ≡ replicate (length old.totals.items) 0 → IsCount p new
count_none p old new limits sized kept rises each none zeros = record {
  limits = limits;
  sized = record {
    is_order = IsPermutation-trans (activities p) old.order.items new.order.items sized.is_order kept;
    each = each;
    columns = ap length zeros ∙ length-replicate (length old.totals.items) 0 ∙ sized.columns;
  };
  rises = rises;
  inside = omega (arith, none);
  sums = λ k in_range. rw (zeros, none) (get_or-replicate (length old.totals.items) k 0 0 (rw sized.columns in_range));
}

come_none : (p : Problem) (c : Count) (t : ℤ) → IsCount p c → c.passed ≡ 0
    → ((i : ℕ) → i < activity_count p → t <ℤ get_or c.times.items i (pos 0)) → HasCome c t
come_none p c t is none early = record {
  past = λ i lt. absurd (omega arith);
  future = λ some. early (get_or c.order.items c.passed 0) (activity_at p c is.sized c.passed some);
}

-- every start is after the time at which a sweep begins
after_all : (p : Problem) (s : List ℤ) → AreStarts p s → (i : ℕ) → i < activity_count p → negsuc 9999999999 <ℤ start s i
after_all p s are i lt =
    let count = are.count in
    let within = are.within i (pos 0) (omega arith) in
    let above = within.at_least in
    omega (arith, ints)

pub counts_none : (p : Problem) (started ended : Count) → AreReady p started ended → AreCounts p (negsuc 9999999999) started ended
counts_none p started ended ready = record {
  are_ends = ready.are_ends;
  starts = ready.starts;
  starts_come = come_none p started (negsuc 9999999999) ready.starts ready.none_started (after_all p started.times.items ready.within);
  ends = ready.ends;
  ends_come = come_none p ended (negsuc 9999999999) ready.ends ready.none_ended (λ i lt.
      let begun = after_all p started.times.items ready.within i lt in
      let long = duration_nonnegative p ready.starts.limits i in
      let at = ready.are_ends.each i lt in
      rw at (omega (arith, ints)));
}
