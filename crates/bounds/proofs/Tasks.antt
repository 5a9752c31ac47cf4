-- The tasks of a resource are the activities that have work for it.
use Rattle.std.proofs.Common.{◌≡◌, refl, ap, ◌∙◌, ℕ, zero, suc, ◌<◌, Bool, true, false, cond, ◌&&◌, ℤ, pos, negsuc, ◌≤ℤ◌, List, [], ◌∷◌, get_or, arith, sym}
use Rattle.std.proofs.Common.{◌*◌, ◌≤◌, ⊎_elim, length, map, ◌+◌, ◌-◌, add-suc, add-zero, int_le, unsigned_abs}
use Rattle.std.specs.List.{All, Contains, filter, range_with_len, sum_by}
use Rattle.std.proofs.lemmas.Int.{ints}
use Rattle.std.proofs.lemmas.List.FromFn.{get_or-range_with_len, length-range_with_len, get_or-map-range_with_len, length-map-range_with_len}
use Rattle.std.proofs.lemmas.List.Elements.{All-contains, All-filter, filter_passes, All-map, Contains-get_or, All-head, All-tail}
use Rattle.network.proofs.Schedules.{range_below}
use Rattle.network.specs.Problem.{Problem, activity_count, activities, resource_count, duration, demand, IsAmount, IsProject}
use Rattle.network.specs.Schedule.{start}
use Rattle.longest_path.specs.Ends.{tail}
use Rattle.bounds.specs.Energy.{between, work, task, has_work, tasks_of, AreTasks, Task, MAX_WORK}
use Rattle.std.proofs.lemmas.Bool.{cases_lt, lt-ltb, ltb-true}
use Rattle.std.proofs.lemmas.List.{get_or-map, length-map}
use Rattle.std.proofs.lemmas.List.Sums.{length-filter, count_by-le-length, sum_by-cons}
use Rattle.std.proofs.Math.ListN.{get_or-eq_default}
use Rattle.std.proofs.Math.Nat.{mul-le-mul, zero-mul}
use Rattle.network.specs.declared.limits.TheConstants.{MAX_ACTIVITIES, MAX_AMOUNT}

-- ---- Which activities lie between a head and a tail.

-- a number that isn't negative
pub abs_is : (z : ℤ) → pos 0 ≤ℤ z → z ≡ pos (unsigned_abs z)
abs_is (pos n) h = refl
abs_is (negsuc n) h = absurd (omega (arith, ints))

pub range_there : (n j : ℕ) → j < n → Contains (range_with_len 0 n) j
range_there n j h =
    let long = length-range_with_len 0 n in
    (j, rw long h, get_or-range_with_len 0 n j j h ∙ omega arith)

passes : (a b x y : ℤ) → (int_le a x && int_le b y) ≡ true → (a ≤ℤ x) × (b ≤ℤ y)
passes a b x y h = (grind (arith, ints), grind (arith, ints))

pass : (a b x y : ℤ) → a ≤ℤ x → b ≤ℤ y → (int_le a x && int_le b y) ≡ true
pass a b x y h k = grind (arith, ints)

Contains-cons : {X : Type 0} (y x : X) (ys : List X) → Contains ys x → Contains (y ∷ ys) x
Contains-cons y x ys (k, lt, at) = (suc k, omega arith, at)

-- a filter keeps what passes
pub Contains-filter : {X : Type 0} (p : X → Bool) (xs : List X) (x : X) → p x ≡ true → Contains xs x → Contains (filter p xs) x
Contains-filter p [] x h (k, lt, at) = absurd (omega arith)
Contains-filter p (y ∷ ys) x h (zero, lt, at) = let passes : p y ≡ true = ap p at ∙ h in rw passes (0, omega arith, at)
Contains-filter p (y ∷ ys) x h (suc k, lt, at) =
    let rest : Contains (filter p ys) x = Contains-filter p ys x h (k, omega arith, at) in
    elim (p y) as (λ b. Contains (cond b (y ∷ filter p ys) (filter p ys)) x) [ true ↦ Contains-cons y x (filter p ys) rest | false ↦ rest ]

-- an activity with head at least a and tail at least b
pub record LiesBetween (p : Problem) (heads tails : List ℤ) (a b : ℤ) (i : ℕ) : Type 0 where
  pub there : i < activity_count p
  pub late : a ≤ℤ start heads i
  pub early : b ≤ℤ tail tails i

-- each activity between lies between
pub All-between : (p : Problem) (heads tails : List ℤ) (a b : ℤ) → All (LiesBetween p heads tails a b) (between p heads tails a b)
All-between p heads tails a b k d l =
    let test : ℕ → Bool = λ j. int_le a (start heads j) && int_le b (tail tails j) in
    let passed = passes a b (start heads (get_or (between p heads tails a b) k d))
    (tail tails (get_or (between p heads tails a b) k d)) (filter_passes test (activities p) k d l) in
    record { there = All-filter test (λ j. j < activity_count p) (activities p) (range_below (activity_count p)) k d l; late = passed.0; early = passed.1 }

pub lies_between : (p : Problem) (heads tails : List ℤ) (a b : ℤ) (i : ℕ) → Contains (between p heads tails a b) i → LiesBetween p heads tails a b i
lies_between p heads tails a b i there = All-contains (LiesBetween p heads tails a b) (between p heads tails a b) i (All-between p heads tails a b) there

pub is_between : (p : Problem) (heads tails : List ℤ) (a b : ℤ) (i : ℕ) → LiesBetween p heads tails a b i → Contains (between p heads tails a b) i
is_between p heads tails a b i lies =
    Contains-filter (λ j. int_le a (start heads j) && int_le b (tail tails j)) (activities p) i
    (pass a b (start heads i) (tail tails i) lies.late lies.early) (range_there (activity_count p) i lies.there)

-- what a list contains, a map of it contains
pub Contains-map : {X Y : Type 0} (f : X → Y) (xs : List X) (x : X) → Contains xs x → Contains (map f xs) (f x)
Contains-map f xs x (k, lt, at) = let long = length-map xs f in (k, rw long lt, get_or-map f xs k x (f x) lt ∙ ap f at)

-- what f makes of an element
pub record IsMade {X Y : Type 0} (f : X → Y) (xs : List X) (y : Y) : Type 0 where
  pub source : X
  pub there : Contains xs source
  pub is : y ≡ f source

pub made_from : {X Y : Type 0} (d : X) (f : X → Y) (xs : List X) (y : Y) → Contains (map f xs) y → IsMade f xs y
made_from d f xs y (k, lt, at) =
    let long = length-map xs f in
    let short : k < length xs = rw long at lt in
    record { source = get_or xs k d; there = Contains-get_or xs k d short; is = sym at ∙ get_or-map f xs k d y short }

-- the task of an activity of the project
pub record IsTaskOf (p : Problem) (k : ℕ) (t : Task) : Type 0 where
  pub there : t.activity < activity_count p
  pub is : t.work ≡ work p k t.activity

-- a task of resource k, with some work
pub record IsBusy (p : Problem) (k : ℕ) (t : Task) : Type 0 where
  pub there : t.activity < activity_count p
  pub is : t.work ≡ work p k t.activity
  pub busy : 0 < t.work

pub all_busy : (p : Problem) (k : ℕ) → All (IsBusy p k) (tasks_of p k)
all_busy p k = λ j d l.
    let whole : List Task = map (task p k) (activities p) in
    let own : All (IsTaskOf p k) (map (task p k) (activities p)) =
    All-map (IsTaskOf p k) (task p k) (activities p)
    (λ i e s. record { there = range_below (activity_count p) i e s; is = refl }) in
    let at : IsTaskOf p k (get_or (tasks_of p k) j d) = All-filter has_work (IsTaskOf p k) whole own j d l in
    record { there = at.there; is = at.is; busy = ltb-true 0 (get_or (tasks_of p k) j d).work (filter_passes has_work whole j d l) }

pub is_busy : (p : Problem) (k : ℕ) (t : Task) → Contains (tasks_of p k) t → IsBusy p k t
is_busy p k t there = All-contains (IsBusy p k) (tasks_of p k) t (all_busy p k) there

-- only activities of the project have work
busy_there : (p : Problem) (k i : ℕ) → 0 < work p k i → i < activity_count p
busy_there p k i busy =
    ⊎_elim
    (λ (lt : i < activity_count p). lt)
    (λ (beyond : activity_count p ≤ i).
    let none : duration p i ≡ pos 0 = get_or-eq_default p.durations (pos 0) beyond in
    let zero : work p k i ≡ 0 = ap (λ (z : ℤ). unsigned_abs z * demand p k i) none ∙ zero-mul (demand p k i) in
    absurd (omega arith))
    (cases_lt i (activity_count p))

-- each activity with work has its task
pub task_there : (p : Problem) (k i : ℕ) → 0 < work p k i → Contains (tasks_of p k) (task p k i)
task_there p k i busy =
    let whole : List Task = map (task p k) (activities p) in
    let lt : i < activity_count p = busy_there p k i busy in
    let long : length whole ≡ activity_count p = length-map-range_with_len (task p k) 0 (activity_count p) in
    Contains-filter has_work whole (task p k i) (lt-ltb 0 (work p k i) busy)
    (i, rw long lt, get_or-map-range_with_len (task p k) 0 (activity_count p) i i (task p k i) lt (omega arith))

-- ---- limits

abs_amount : (z : ℤ) → IsAmount z → unsigned_abs z ≤ unsigned_abs MAX_AMOUNT
abs_amount z amount =
    omega (arith, ints)

-- the work of an activity is within the limits
work_limit : (p : Problem) (k i : ℕ) → IsProject p → k < resource_count p → i < activity_count p → work p k i ≤ MAX_WORK
work_limit p k i is in_range lt =
    let lasts : unsigned_abs (duration p i) ≤ unsigned_abs MAX_AMOUNT = abs_amount (duration p i) (is.durations_fit i (pos 0) lt) in
    let row : i < length p.demands = rw is.demand_rows lt in
    let wide : length (get_or p.demands i []) ≡ resource_count p = is.demand_columns i [] row in
    let column : k < length (get_or p.demands i []) = rw wide in_range in
    let asks : demand p k i ≤ unsigned_abs MAX_AMOUNT = abs_amount (get_or (get_or p.demands i []) k (pos 0)) (is.demands_fit i [] row k (pos 0) column) in
    omega (arith, mul-le-mul lasts asks)

pub tasks_limited : (p : Problem) (k : ℕ) → IsProject p → k < resource_count p → AreTasks (activity_count p) (tasks_of p k)
tasks_limited p k is in_range =
    let few : activity_count p ≤ MAX_ACTIVITIES = is.activity_limit in
    let whole : List Task = map (task p k) (activities p) in
    let long : length whole ≡ activity_count p = length-map-range_with_len (task p k) 0 (activity_count p) in
    let left : length (tasks_of p k) ≤ length whole = omega (arith, length-filter has_work whole, count_by-le-length has_work whole) in
    record {
      few = omega arith;
      each = λ j d l.
          let at : IsBusy p k (get_or (tasks_of p k) j d) = all_busy p k j d l in
          let limit : work p k (get_or (tasks_of p k) j d).activity ≤ MAX_WORK = work_limit p k (get_or (tasks_of p k) j d).activity is in_range at.there in
          record { there = at.there; work_limit = omega (arith, at.is, limit) };
    }

-- ---- Sums over units of time, and sums over what a filter keeps.

-- f 0 + .. + f (m - 1)
pub over : (ℕ → ℕ) → ℕ → ℕ
over f zero = 0
over f (suc m) = over f m + f m

pub over-const : (f : ℕ → ℕ) (most m : ℕ) → ((u : ℕ) → f u ≤ most) → over f m ≤ m * most
unfolding over
over-const f most zero h = omega arith
over-const f most (suc m) h = omega (arith, over-const f most m h, h m)

over-more : (f : ℕ → ℕ) (m k : ℕ) → over f m ≤ over f (m + k)
unfolding over
over-more f m zero = rw (add-zero m) (omega arith)
over-more f m (suc k) = rw (add-suc m k) (omega (arith, over-more f m k))

over-zero : (m : ℕ) → over (λ _. 0) m ≡ 0
unfolding over
over-zero zero = refl
over-zero (suc m) = omega (arith, over-zero m)

over-plus : (f g h : ℕ → ℕ) (m : ℕ) → ((u : ℕ) → h u ≡ f u + g u) → over h m ≡ over f m + over g m
unfolding over
over-plus f g h zero e = refl
over-plus f g h (suc m) e = omega (arith, over-plus f g h m e, e m)

-- the sum over units of sums over activities is the sum over activities of sums over units
pub over-sum_by : (g : ℕ → ℕ → ℕ) (m : ℕ) (xs : List ℕ) → over (λ u. sum_by (g u) xs) m ≡ sum_by (λ i. over (λ u. g u i) m) xs
over-sum_by g m [] = over-zero m
over-sum_by g m (x ∷ xs) =
    over-plus (λ u. g u x) (λ u. sum_by (g u) xs) (λ u. sum_by (g u) (x ∷ xs)) m (λ u. sum_by-cons (g u) x xs)
    ∙ ap (λ rest. over (λ u. g u x) m + rest) (over-sum_by g m xs)
    ∙ sym (sum_by-cons (λ i. over (λ u. g u i) m) x xs)

-- where r is used at each of d units from s on, that makes d * r
span_from : (f : ℕ → ℕ) (r s d : ℕ) → ((u : ℕ) → s ≤ u → u < s + d → f u ≡ r) → d * r ≤ over f (s + d)
unfolding over
span_from f r s zero h = omega arith
span_from f r s (suc d) h =
    let rest : d * r ≤ over f (s + d) = span_from f r s d (λ u l k. h u l (omega arith)) in
    let last : f (s + d) ≡ r = h (s + d) (omega arith) (omega arith) in
    rw (add-suc s d) (omega (arith, rest, last))

pub over-span : (f : ℕ → ℕ) (r s d m : ℕ) → s + d ≤ m → ((u : ℕ) → s ≤ u → u < s + d → f u ≡ r) → d * r ≤ over f m
over-span f r s d m within h =
    let at : s + d + (m - (s + d)) ≡ m = omega arith in
    let longer : over f (s + d) ≤ over f m = rw at at (over-more f (s + d) (m - (s + d))) in
    omega (arith, span_from f r s d h, longer)

-- the sum over what a filter keeps, as a sum over all
pub sum_by-filter : {X : Type 0} (r : X → ℕ) (p : X → Bool) (xs : List X) → sum_by r (filter p xs) ≡ sum_by (λ x. cond (p x) (r x) 0) xs
sum_by-filter r p [] = refl
sum_by-filter {X} r p (x ∷ xs) = omega (arith, step (p x) (filter p xs) (sum_by-filter r p xs), sum_by-cons (λ y. cond (p y) (r y) 0) x xs)
  where
    step : (b : Bool) (ys : List X) → sum_by r ys ≡ sum_by (λ y. cond (p y) (r y) 0) xs
        → sum_by r (cond b (x ∷ ys) ys) ≡ cond b (r x) 0 + sum_by (λ y. cond (p y) (r y) 0) xs
    step true ys rest = omega (arith, rest, sum_by-cons r x ys)
    step false ys rest = omega (arith, rest)

pub sum_by-filter-le : (r : ℕ → ℕ) (p : ℕ → Bool) (xs : List ℕ) → sum_by r (filter p xs) ≤ sum_by r xs
sum_by-filter-le r p [] = omega arith
sum_by-filter-le r p (x ∷ xs) = omega (arith, sum_by-filter-le r p xs, sum_by-cons r x xs, step (p x) (filter p xs))
  where
    step : (b : Bool) (ys : List ℕ) → sum_by r (cond b (x ∷ ys) ys) ≤ r x + sum_by r ys
    step true ys = omega (arith, sum_by-cons r x ys)
    step false ys = omega arith

-- a sum of terms that are at most others
pub sum_by-le-each : {X : Type 0} (f g : X → ℕ) (xs : List X) → All (λ x. f x ≤ g x) xs → sum_by f xs ≤ sum_by g xs
sum_by-le-each f g [] h = omega arith
sum_by-le-each f g (x ∷ xs) h = omega (
  arith,
  All-head (λ y. f y ≤ g y) x xs h,
  sum_by-le-each f g xs (All-tail (λ y. f y ≤ g y) x xs h),
  sum_by-cons f x xs,
  sum_by-cons g x xs,
)
