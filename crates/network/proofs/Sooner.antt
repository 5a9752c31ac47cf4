-- A schedule without the periods that no stretch covers is feasible too, and ends by the horizon.
use Rattle.std.proofs.Common.{◌≡◌, refl, sym, ap, ◌∙◌, ℕ, zero, suc, ◌+◌, ◌-◌, ◌<◌, ◌≤◌, inl, inr, ⊎_elim, Bool, true, false, ◌==◌, ◌&&◌, int_le, int_lt, cond}
use Rattle.std.proofs.Common.{ℤ, pos, negsuc, ◌+ℤ◌, ◌≤ℤ◌, ◌<ℤ◌, unsigned_abs, List, [], ◌∷◌, map, length, get_or, arith}
use Rattle.std.specs.Int.{int_max}
use Rattle.std.specs.List.{All, Contains, filter, fold, range_with_len, sum_by}
use Rattle.std.proofs.lemmas.Bool.{eq-eqb}
use Rattle.std.proofs.lemmas.Int.{ints, fold-int_max_bounds}
use Rattle.std.proofs.lemmas.List.{length-map, get_or-map}
use Rattle.std.proofs.lemmas.List.Elements.{All-contains, All-contains_itself, All-head, All-nil, All-tail, All-weaker, Contains-append_cases}
use Rattle.std.proofs.lemmas.List.Sums.{sum_by-cons}
use Rattle.std.proofs.lemmas.List.FromFn.{get_or-map-range_with_len, length-map-range_with_len}
use Rattle.network.specs.declared.parts.Lag.{Lag}
use Rattle.network.specs.Problem.{Problem, IsProject, activities, activity_count, capacity, duration, demand, end_of, end_arc, implied_arcs, rules, start_arc}
use Rattle.network.specs.Schedule.{start, makespan, Meets, IsSchedule, is_running, use_at, IsWithinCapacities, IsFeasible}
use Rattle.network.proofs.FaultLaws.{AreInside-arcs_of}
use Rattle.network.proofs.Schedules.{range_below, rule_contains, start_rule}
use Rattle.network.specs.Horizon.{lags_from, stretch, horizon, HorizonSuffices}
use Rattle.network.proofs.Squeezed.{squeezed, rising, slow, exact, squeezed-le-sum_by, period_of, runs_then, top, none_runs}

-- ---- the stretch of an activity

abbrev longest : Problem → ℕ → ℤ
longest p i = fold int_max (duration p i) (lags_from p i)

duration_fits : (p : Problem) (i : ℕ) → IsProject p → i < activity_count p → pos 0 ≤ℤ duration p i
duration_fits p i is lt = (is.durations_fit i (pos 0) lt).at_least

longest-duration : (p : Problem) (i : ℕ) → duration p i ≤ℤ longest p i
longest-duration p i = (fold-int_max_bounds (duration p i) (lags_from p i) (longest p i) refl).0

-- the stretch is that number
stretch_is : (p : Problem) (i : ℕ) → IsProject p → i < activity_count p → pos (stretch p i) ≡ longest p i
stretch_is p i is lt =
    let low = duration_fits p i is lt in
    let high = longest-duration p i in
    omega (arith, ints)

Contains-cons : {X : Type 0} (y x : X) (ys : List X) → Contains ys x → Contains (y ∷ ys) x
Contains-cons y x ys (k, lt, at) = (suc k, omega arith, at)

Contains-filter : {X : Type 0} (p : X → Bool) (xs : List X) (x : X) → p x ≡ true → Contains xs x → Contains (filter p xs) x
Contains-filter p [] x h (k, lt, at) = absurd (omega arith)
Contains-filter p (y ∷ ys) x h (zero, lt, at) = let passes : p y ≡ true = ap p at ∙ h in rw passes (0, omega arith, at)
Contains-filter p (y ∷ ys) x h (suc k, lt, at) =
    let rest : Contains (filter p ys) x = Contains-filter p ys x h (k, omega arith, at) in
    elim (p y) as (λ b. Contains (cond b (y ∷ filter p ys) (filter p ys)) x) [ true ↦ Contains-cons y x (filter p ys) rest | false ↦ rest ]

Contains-map : {X Y : Type 0} (f : X → Y) (xs : List X) (x : X) → Contains xs x → Contains (map f xs) (f x)
Contains-map f xs x (k, lt, at) = let long = length-map xs f in (k, rw long lt, get_or-map f xs k x (f x) lt ∙ ap f at)

given_short : (p : Problem) (e : Lag) → Contains p.lags e → e.weight ≤ℤ longest p e.from
given_short p e there =
    let from_here : Lag → Bool = λ f. f.from == e.from in
    let kept : Contains (filter from_here p.lags) e = Contains-filter from_here p.lags e (eq-eqb e.from e.from refl) there in
    All-contains (λ x. x ≤ℤ longest p e.from) (lags_from p e.from) e.weight
    (fold-int_max_bounds (duration p e.from) (lags_from p e.from) (longest p e.from) refl).1
    (Contains-map (λ f. f.weight) (filter from_here p.lags) e kept)

-- an arc of a list that is made of numbers
made_of : (f : ℕ → Lag) (a n : ℕ) (e : Lag) → Contains (map f (range_with_len a n)) e → (i : ℕ) × (e ≡ f i)
made_of f a n e (k, lt, at) =
    let low : k < n = omega (arith, length-map-range_with_len f a n) in
    (a + k, sym at ∙ get_or-map-range_with_len f a n k (a + k) e low refl)

-- no arc is longer than the stretch of the activity that it leaves
rule_short : (p : Problem) (e : Lag) → IsProject p → e.from < activity_count p → Contains (rules p) e → e.weight ≤ℤ longest p e.from
rule_short p e is lt there = ⊎_elim (given_short p e) (implied_short p e is lt) (Contains-append_cases p.lags (implied_arcs p) e there)
  where
    implied_short : (p : Problem) (e : Lag) → IsProject p → e.from < activity_count p → Contains (implied_arcs p) e → e.weight ≤ℤ longest p e.from
    implied_short p e is lt there =
        let low = duration_fits p e.from is lt in
        let high = longest-duration p e.from in
        ⊎_elim
        (λ (first : Contains (map start_arc (range_with_len 1 (end_of p))) e).
        let from = made_of start_arc 1 (end_of p) e first in
        let none : e.weight ≡ pos 0 = ap (λ (f : Lag). f.weight) from.1 in
        omega (arith, ints))
        (λ (last : Contains (map (end_arc p) (range_with_len 0 (end_of p))) e).
        let to = made_of (end_arc p) 0 (end_of p) e last in
        let same : e.from ≡ to.0 = ap (λ (f : Lag). f.from) to.1 in
        let weight : e.weight ≡ duration p to.0 = ap (λ (f : Lag). f.weight) to.1 in
        let lasts : e.weight ≡ duration p e.from = weight ∙ ap (duration p) (sym same) in
        omega (arith, ints))
        (Contains-append_cases (map start_arc (range_with_len 1 (end_of p))) (map (end_arc p) (range_with_len 0 (end_of p))) e there)

-- ---- the schedule

abbrev begin : List ℤ → ℕ → ℕ
begin s i = unsigned_abs (start s i)

-- squeezed time
abbrev time : Problem → List ℤ → ℕ → ℕ
time p s x = squeezed (begin s) (stretch p) (activity_count p) x

abbrev sooner : Problem → List ℤ → List ℤ
sooner p s = map (λ i. pos (time p s (begin s i))) (range_with_len 0 (activity_count p))

start-sooner : (p : Problem) (s : List ℤ) (i : ℕ) → i < activity_count p → start (sooner p s) i ≡ pos (time p s (begin s i))
start-sooner p s i lt = get_or-map-range_with_len (λ j. pos (time p s (begin s j))) 0 (activity_count p) i i (pos 0) lt (omega arith)

length-sooner : (p : Problem) (s : List ℤ) → length (sooner p s) ≡ activity_count p
length-sooner p s = length-map-range_with_len (λ i. pos (time p s (begin s i))) 0 (activity_count p)

-- no activity starts before 0
begin_is : (p : Problem) (s : List ℤ) (i : ℕ) → IsSchedule p s → i < activity_count p → pos (begin s i) ≡ start s i
begin_is p s zero is lt = let zero_first : start s 0 ≡ pos 0 = is.from_zero in omega (arith, ints)
begin_is p s (suc i) is lt =
    let zero_first : start s 0 ≡ pos 0 = is.from_zero in
    let met : (start s 0 +ℤ pos 0) ≤ℤ start s (suc i) = All-contains (Meets s) (rules p) (start_arc (suc i)) is.rules_met (start_rule p i lt) in
    omega (arith, ints)

-- ---- it meets the rules

-- the weight is at most the stretch, so squeezed time has all of it
later : (p : Problem) (s : List ℤ) (i j : ℕ) (w : ℤ) → i < activity_count p → w ≤ℤ pos (stretch p i)
    → (pos (begin s i) +ℤ w) ≤ℤ pos (begin s j) → (pos (time p s (begin s i)) +ℤ w) ≤ℤ pos (time p s (begin s j))
later p s i j (pos k) lt short met =
    let le : begin s i + k ≤ begin s j = omega (arith, ints) in
    let within : k ≤ stretch p i = omega (arith, ints) in
    let moved : time p s (begin s i + k) ≡ time p s (begin s i) + k = exact (begin s) (stretch p) (activity_count p) i k lt within in
    let up : time p s (begin s i + k) ≤ time p s (begin s j) = rising (begin s) (stretch p) (activity_count p) (begin s i + k) (begin s j) le in
    omega (arith, ints)
later p s i j (negsuc k) lt short met =
    let le : begin s i ≤ begin s j + (k + 1) = omega (arith, ints) in
    let up : time p s (begin s i) ≤ time p s (begin s j + (k + 1)) = rising (begin s) (stretch p) (activity_count p) (begin s i) (begin s j + (k + 1)) le in
    let few : time p s (begin s j + (k + 1)) ≤ time p s (begin s j) + (k + 1) = slow (begin s) (stretch p) (activity_count p) (begin s j) (k + 1) in
    omega (arith, ints)

rule_met : (p : Problem) (s : List ℤ) → IsProject p → IsSchedule p s → (e : Lag) → Contains (rules p) e → Meets (sooner p s) e
rule_met p s is schedule e there =
    let ends = AreInside-arcs_of p [] is (All-nil (λ q. (q.before < activity_count p) × (q.after < activity_count p))) e (rule_contains p [] e there) in
    let short : e.weight ≤ℤ pos (stretch p e.from) = rw (stretch_is p e.from is ends.0) (rule_short p e is ends.0 there) in
    let met : (start s e.from +ℤ e.weight) ≤ℤ start s e.to = All-contains (Meets s) (rules p) e schedule.rules_met there in
    let from : pos (begin s e.from) ≡ start s e.from = begin_is p s e.from schedule ends.0 in
    let to : pos (begin s e.to) ≡ start s e.to = begin_is p s e.to schedule ends.1 in
    let moved = later p s e.from e.to e.weight ends.0 short (rw (from, to) met) in
    rw (start-sooner p s e.from ends.0, start-sooner p s e.to ends.1) moved

schedule-sooner : (p : Problem) (s : List ℤ) → IsProject p → IsSchedule p s → IsSchedule p (sooner p s)
schedule-sooner p s is schedule = record {
  whole = length-sooner p s;
  from_zero = first;
  rules_met = All-weaker (Contains (rules p)) (Meets (sooner p s)) (rule_met p s is schedule) (rules p) (All-contains_itself (rules p));
}
  where
    first : start (sooner p s) 0 ≡ pos 0
    first =
        let some : 0 < activity_count p = omega (arith, is.two_dummies) in
        start-sooner p s 0 some ∙ ap (λ z. pos (time p s (unsigned_abs z))) schedule.from_zero

-- ---- it uses no more than the old one did in some period

sum_by-filter-le : (f : ℕ → ℕ) (P Q : ℕ → Bool) (xs : List ℕ) → All (λ x. P x ≡ true → Q x ≡ true) xs → sum_by f (filter P xs) ≤ sum_by f (filter Q xs)
sum_by-filter-le f P Q [] both = omega arith
sum_by-filter-le f P Q (x ∷ xs) both =
    let rest = sum_by-filter-le f P Q xs (All-tail (λ y. P y ≡ true → Q y ≡ true) x xs both) in
    by_test (P x) (Q x) (All-head (λ y. P y ≡ true → Q y ≡ true) x xs both) rest
  where
    by_test : (b c : Bool) → (b ≡ true → c ≡ true) → sum_by f (filter P xs) ≤ sum_by f (filter Q xs)
        → sum_by f (cond b (x ∷ filter P xs) (filter P xs)) ≤ sum_by f (cond c (x ∷ filter Q xs) (filter Q xs))
    by_test false false h rest = rest
    by_test false true h rest = omega (arith, sum_by-cons f x (filter Q xs))
    by_test true true h rest = omega (arith, sum_by-cons f x (filter P xs), sum_by-cons f x (filter Q xs))
    by_test true false h rest = absurd (let no : false ≡ true = h refl in cc)

runs_when : (x t y : ℤ) → x ≤ℤ t → t <ℤ y → (int_le x t && int_lt t y) ≡ true
runs_when x t y h k = grind (arith, ints)

when_runs : (x t y : ℤ) → (int_le x t && int_lt t y) ≡ true → (x ≤ℤ t) × (t <ℤ y)
when_runs x t y h = (grind (arith, ints), grind (arith, ints))

-- what runs at t in the new schedule ran at that time in the old one
abbrev RunsThen : Problem → List ℤ → ℤ → ℤ → Type 0
RunsThen p s t old = (i : ℕ) → i < activity_count p → is_running p (sooner p s) t i ≡ true → is_running p s old i ≡ true

-- an activity that runs from x for its duration does so in its stretch
record Lasts (p : Problem) (i : ℕ) : Type 0 where
  periods : ℕ
  is : pos periods ≡ duration p i
  within : periods ≤ stretch p i

lasts : (p : Problem) (i : ℕ) → IsProject p → i < activity_count p → Lasts p i
lasts p i is lt =
    let low = duration_fits p i is lt in
    let high = longest-duration p i in
    let same = stretch_is p i is lt in
    record { periods = unsigned_abs (duration p i); is = omega (arith, ints); within = omega (arith, ints) }

-- when it runs in squeezed time
running_when : (p : Problem) (s : List ℤ) (t : ℤ) (i : ℕ) (l : Lasts p i) → i < activity_count p
    → is_running p (sooner p s) t i ≡ true → (pos (time p s (begin s i)) ≤ℤ t)
    × (t <ℤ pos (time p s (begin s i) + l.periods))
running_when p s t i l lt runs =
    let from : start (sooner p s) i ≡ pos (time p s (begin s i)) = start-sooner p s i lt in
    let parts = when_runs (start (sooner p s) i) t (start (sooner p s) i +ℤ duration p i) runs in
    let length_is = l.is in
    (rw from at parts.0, omega (arith, ints, parts.1))

old_time : (p : Problem) (s : List ℤ) → IsProject p → IsSchedule p s → (t : ℤ) → (old : ℤ) × RunsThen p s t old
old_time p s is schedule (negsuc u) = (
  negsuc u,
  λ i lt runs.
      let at = running_when p s (negsuc u) i (lasts p i is lt) lt runs in
      absurd (omega (arith, ints, at.0)),
)
old_time p s is schedule (pos u) =
    elim (period_of (begin s) (stretch p) (activity_count p) u (top (begin s) (stretch p) (activity_count p))) [
      | inl past ↦ (
        pos u,
        λ i lt runs.
            let l = lasts p i is lt in
            let at = running_when p s (pos u) i l lt runs in
            absurd (none_runs (begin s) (stretch p) (activity_count p) u i l.periods past lt l.within (omega (arith, ints, at.1))),
      )
      | inr found ↦ (
        pos found.0,
        λ i lt runs.
            let l = lasts p i is lt in
            let at = running_when p s (pos u) i l lt runs in
            let then = runs_then (begin s) (stretch p) (activity_count p) u found.0 i l.periods found.1 lt l.within
            (omega (arith, ints, at.0)) (omega (arith, ints, at.1)) in
            let from : pos (begin s i) ≡ start s i = begin_is p s i schedule lt in
            let length_is : pos l.periods ≡ duration p i = l.is in
            let begun : begin s i ≤ found.0 = then.0 in
            let lasting : found.0 < begin s i + l.periods = then.1 in
            runs_when (start s i) (pos found.0) (start s i +ℤ duration p i) (omega (arith, ints)) (omega (arith, ints)),
      )
    ]

within-sooner : (p : Problem) (s : List ℤ) → IsProject p → IsFeasible p s → IsWithinCapacities p (sooner p s)
within-sooner p s is feasible = λ t k in_range.
    let old = old_time p s is feasible.schedule t in
    let fits : use_at p s k old.0 ≤ capacity p k = feasible.within old.0 k in_range in
    let each : All (λ i. is_running p (sooner p s) t i ≡ true → is_running p s old.0 i ≡ true) (activities p) = λ j d l.
    old.1 (get_or (activities p) j d) (range_below (activity_count p) j d l) in
    omega (arith, fits, sum_by-filter-le (demand p k) (is_running p (sooner p s) t) (is_running p s old.0) (activities p) each)

-- ---- the theorem

in_time : (p : Problem) (s : List ℤ) → IsProject p → makespan (sooner p s) ≤ℤ pos (horizon p)
in_time p s is =
    let two : 2 ≤ activity_count p = is.two_dummies in
    let last : makespan (sooner p s) ≡ start (sooner p s) (end_of p) = ap (λ n. start (sooner p s) (n - 1)) (length-sooner p s) in
    let ends : start (sooner p s) (end_of p) ≡ pos (time p s (begin s (end_of p))) = start-sooner p s (end_of p) (omega arith) in
    let most = squeezed-le-sum_by (begin s) (stretch p) (activity_count p) (begin s (end_of p)) in
    rw (last, ends) (omega (arith, ints))

pub horizon_suffices : HorizonSuffices
horizon_suffices p s is feasible = (
  sooner p s,
  record {
    feasible = record { schedule = schedule-sooner p s is feasible.schedule; within = within-sooner p s is feasible };
    in_time = in_time p s is;
  },
)
