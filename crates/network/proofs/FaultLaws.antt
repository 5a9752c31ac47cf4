-- Parts without a fault are those of a project, and a project has no fault.
use Rattle.std.proofs.Common.{◌≡◌, refl, sym, ℕ, zero, suc, ◌+◌, ◌<◌, ◌≤◌, Bool, true, false, ◌&&◌, ℤ, pos, neg_ℤ, ◌≤ℤ◌, List, [], ◌∷◌, length, Option, None}
use Rattle.std.proofs.Common.{Some, arith, get_or, ◌∙◌, inl, inr, map, Vec, Global, ap, ◌++◌, append_assoc, subst, int_le, nat_le, nat_lt, nat_eq, Result, Ok}
use Rattle.std.proofs.Common.{Err, OnErr}
use Rattle.std.specs.List.{All, AllPairs, list_all, Contains, range_with_len}
use Rattle.std.proofs.lemmas.Int.{ints}
use Rattle.std.proofs.lemmas.Bool.{and_parts, ltb-true, leb-true, eqb-true, le-leb, lt-ltb, eq-eqb}
use Rattle.std.proofs.lemmas.List.Elements.{All-weaker, All-nil, All-cons, All-head, All-tail, Contains-append_cases, All-contains, All-get_or, Contains-get_or}
use Rattle.std.proofs.lemmas.List.Kept.{AllPairs-cons}
use Rattle.std.proofs.lemmas.List.Sums.{AllPass-from_list_all, list_all-from_AllPass}
use Rattle.network.specs.declared.parts.ProjectFault.{ProjectFault}
use Rattle.network.specs.declared.parts.ProjectFault.TheVariants.{Limit, Activity, Dummy, Shape}
use Rattle.network.specs.declared.parts.Quantity.TheVariants as quantity
use Rattle.network.specs.Problem.{Problem, activity_count, end_of, resource_count, duration, IsProject, IsLag, IsAmount, IsDummy, IsWithin, start_arc, end_arc}
use Rattle.network.specs.Problem.{pair_arc, implied_arcs, rules, arcs_of, NameActivities, problem_of, Lag, MAX_ACTIVITIES, MAX_AMOUNT, MAX_LAG_WEIGHT, MAX_LAGS}
use Rattle.network.specs.Problem.{MAX_RESOURCES, Pair}
use Rattle.network.specs.Faults.{or_else, unless, is_amount, is_weight, is_zero, shape_fault, count_fault, dummy_fault, amount_fault, arc_fault, lag_fault}
use Rattle.network.specs.Faults.{first_fault}
use Rattle.std.proofs.lemmas.List.{get_or-map, length-map}
use Rattle.std.proofs.lemmas.List.FromFn.{get_or-map-range_with_len, length-map-range_with_len, map-range_with_len_more}
use Rattle.network.specs.Walk.{AreLight, AreInside}
use Rattle.std.proofs.lemmas.List.Folds.{list_all-map}
use Rattle.network.specs.declared.parts.Parts.{Parts}

or_else-none : (x y : Option ProjectFault) → or_else x y ≡ None → (x ≡ None) × (y ≡ None)
or_else-none None y e = (refl, e)
or_else-none (Some f) y e = cc

unless-none : (t : Bool) (f : ProjectFault) → unless t f ≡ None → t ≡ true
unless-none true f e = refl
unless-none false f e = cc

int_le-true : (x y : ℤ) → int_le x y ≡ true → x ≤ℤ y
int_le-true x y e = grind (arith, ints)

amount : (z : ℤ) → is_amount z ≡ true → IsAmount z
amount z e = let p = and_parts (int_le (pos 0) z) (int_le z MAX_AMOUNT) e
    in record { at_least = int_le-true (pos 0) z p.0; at_most = int_le-true z MAX_AMOUNT p.1 }

zero_is : (z : ℤ) → is_zero z ≡ true → z ≡ pos 0
zero_is z e =
    let p = and_parts (int_le (pos 0) z) (int_le z (pos 0)) e in
    let above : pos 0 ≤ℤ z = int_le-true (pos 0) z p.0 in
    let below : z ≤ℤ pos 0 = int_le-true z (pos 0) p.1 in
    omega (arith, ints)

all_by : {X : Type 0} (test : X → Bool) (P : X → Type 0) (xs : List X) → ((x : X) → test x ≡ true → P x) → list_all test xs ≡ true → All P xs
all_by test P xs h e = All-weaker (λ x. test x ≡ true) P h xs (AllPass-from_list_all test xs e)

dummy : (p : Problem) (i : ℕ) → dummy_fault p i ≡ None → IsDummy p i
dummy p i e =
    let t = unless-none (is_zero (duration p i) && list_all is_zero (get_or p.demands i [])) _ e in
    let both = and_parts (is_zero (duration p i)) (list_all is_zero (get_or p.demands i [])) t in
    record { no_time = zero_is (duration p i) both.0; no_demand = all_by is_zero (λ r. r ≡ pos 0) (get_or p.demands i []) zero_is both.1 }

arc : (n place last : ℕ) (e : Lag) → arc_fault n place last e ≡ None → IsLag n e × (last ≤ e.from)
arc n place last e h =
    let one = or_else-none _ _ h in
    let two = or_else-none _ _ one.1 in
    let three = or_else-none _ _ two.1 in
    let w = and_parts (int_le (neg_ℤ MAX_LAG_WEIGHT) e.weight) (int_le e.weight MAX_LAG_WEIGHT) (unless-none (is_weight e.weight) _ three.0) in (
      record {
        from_activity = ltb-true e.from n (unless-none (nat_lt e.from n) _ one.0);
        to_activity = ltb-true e.to n (unless-none (nat_lt e.to n) _ two.0);
        light = record { at_least = int_le-true (neg_ℤ MAX_LAG_WEIGHT) e.weight w.0; at_most = int_le-true e.weight MAX_LAG_WEIGHT w.1 };
      },
      leb-true last e.from (unless-none (nat_le last e.from) _ three.1),
    )

pub record AreLags (n last : ℕ) (es : List Lag) : Type 0 where
  pub fit : All (IsLag n) es
  pub after : All (λ e. last ≤ e.from) es
  pub rise : AllPairs (λ e f. e.from ≤ f.from) es

lags : (n place last : ℕ) (es : List Lag) → lag_fault n place last es ≡ None → AreLags n last es
lags n place last [] h = record {
  fit = All-nil (IsLag n);
  after = All-nil (λ (e : Lag). last ≤ e.from);
  rise =
      λ i j d less in'. let no : j < 0 = in' in absurd (omega arith);
}
lags n place last (e ∷ es) h =
    let both = or_else-none (arc_fault n place last e) (lag_fault n (place + 1) e.from es) h in
    let here = arc n place last e both.0 in
    let others = lags n (place + 1) e.from es both.1 in
    let low : last ≤ e.from = here.1 in
    record {
      fit = All-cons (IsLag n) e es here.0 others.fit;
      after = All-cons (λ (f : Lag). last ≤ f.from) e es low
          (All-weaker (λ (f : Lag). e.from ≤ f.from) (λ (f : Lag). last ≤ f.from) (λ f k. omega arith) es others.after);
      rise = AllPairs-cons (λ (f g : Lag). f.from ≤ g.from) e es others.after others.rise;
    }

pub no_shape_fault : (p : Problem) → 2 ≤ activity_count p → length p.demands ≡ activity_count p
    → list_all (λ row. nat_eq (length row) (resource_count p)) p.demands ≡ true → None ≡ shape_fault p
no_shape_fault p two long wide = rw (le-leb 2 (activity_count p) two, eq-eqb (length p.demands) (activity_count p) long, wide) refl

from_parts : (p : Problem) → shape_fault p ≡ None → count_fault p ≡ None → dummy_fault p 0 ≡ None
    → dummy_fault p (end_of p) ≡ None → amount_fault p ≡ None → lag_fault (activity_count p) 0 0 p.lags ≡ None
    → IsProject p
from_parts p shape count first last amounts arcs =
    let s1 = and_parts (nat_le 2 (activity_count p) && nat_eq (length p.demands) (activity_count p))
    (list_all (λ row. nat_eq (length row) (resource_count p)) p.demands) (unless-none _ _ shape) in
    let s2 = and_parts (nat_le 2 (activity_count p)) (nat_eq (length p.demands) (activity_count p)) s1.0 in
    let c1 = or_else-none _ _ count in
    let c2 = or_else-none _ _ c1.1 in
    let a1 = or_else-none _ _ amounts in
    let a2 = or_else-none _ _ a1.1 in
    let given = lags (activity_count p) 0 0 p.lags arcs in
    record {
      two_dummies = leb-true 2 (activity_count p) s2.0;
      activity_limit = leb-true (activity_count p) MAX_ACTIVITIES (unless-none _ _ c1.0);
      resource_limit = leb-true (resource_count p) MAX_RESOURCES (unless-none _ _ c2.0);
      lag_limit = leb-true (length p.lags) MAX_LAGS (unless-none _ _ c2.1);
      demand_rows = eqb-true (length p.demands) (activity_count p) s2.1;
      demand_columns = all_by (λ row. nat_eq (length row) (resource_count p)) (λ row. length row ≡ resource_count p)
          p.demands (λ row t. eqb-true (length row) (resource_count p) t) s1.1;
      start_is_dummy = dummy p 0 first;
      end_is_dummy = dummy p (end_of p) last;
      durations_fit = all_by is_amount IsAmount p.durations amount (unless-none _ _ a1.0);
      demands_fit = all_by (λ row. list_all is_amount row) (λ row. All IsAmount row) p.demands
          (λ row t. all_by is_amount IsAmount row amount t) (unless-none _ _ a2.0);
      capacities_fit = all_by is_amount IsAmount p.capacities amount (unless-none _ _ a2.1);
      lags_fit = given.fit;
      lags_rise = given.rise;
    }

pub IsProject-from_no_fault : (p : Problem) → first_fault p ≡ None → IsProject p
IsProject-from_no_fault p none =
    let t1 = or_else-none _ _ none in
    let t2 = or_else-none _ _ t1.1 in
    let t3 = or_else-none _ _ t2.1 in
    let t4 = or_else-none _ _ t3.1 in
    let t5 = or_else-none _ _ t4.1 in
    from_parts p t1.0 t2.0 t3.0 t4.0 t5.0 t5.1

-- ---- and the other way: a project has no fault

unless-true : (t : Bool) (f : ProjectFault) → t ≡ true → unless t f ≡ None
unless-true true f e = refl
unless-true false f e = cc

or_else-both : (x y : Option ProjectFault) → x ≡ None → y ≡ None → or_else x y ≡ None
or_else-both None y e h = h
or_else-both (Some f) y e h = cc

and_true : (s t : Bool) → s ≡ true → t ≡ true → (s && t) ≡ true
and_true true t e h = h
and_true false t e h = cc

true_int_le : (x y : ℤ) → x ≤ℤ y → int_le x y ≡ true
true_int_le x y e = grind (arith, ints)

amount_passes : (z : ℤ) → IsAmount z → is_amount z ≡ true
amount_passes z h = and_true (int_le (pos 0) z) (int_le z MAX_AMOUNT) (true_int_le (pos 0) z h.at_least) (true_int_le z MAX_AMOUNT h.at_most)

zero_passes : (z : ℤ) → z ≡ pos 0 → is_zero z ≡ true
zero_passes z h = rw h refl

passes_all : {X : Type 0} (test : X → Bool) (P : X → Type 0) (xs : List X) → ((x : X) → P x → test x ≡ true) → All P xs → list_all test xs ≡ true
passes_all test P xs h a = list_all-from_AllPass test xs (All-weaker P (λ x. test x ≡ true) h xs a)

no_dummy_fault : (p : Problem) (i : ℕ) → IsDummy p i → dummy_fault p i ≡ None
no_dummy_fault p i h =
    unless-true (is_zero (duration p i) && list_all is_zero (get_or p.demands i [])) (Dummy i)
    (and_true (is_zero (duration p i)) (list_all is_zero (get_or p.demands i [])) (zero_passes (duration p i) h.no_time)
    (passes_all is_zero (λ r. r ≡ pos 0) (get_or p.demands i []) zero_passes h.no_demand))

no_arc_fault : (n place last : ℕ) (e : Lag) → IsLag n e → last ≤ e.from → arc_fault n place last e ≡ None
no_arc_fault n place last e l after =
    or_else-both (unless (nat_lt e.from n) (Activity place e.from)) _ (unless-true (nat_lt e.from n) _ (lt-ltb e.from n l.from_activity))
    (or_else-both (unless (nat_lt e.to n) (Activity place e.to)) _ (unless-true (nat_lt e.to n) _ (lt-ltb e.to n l.to_activity))
    (or_else-both (unless (is_weight e.weight) (Limit quantity.Lag)) _
    (unless-true (is_weight e.weight) _
    (and_true (int_le (neg_ℤ MAX_LAG_WEIGHT) e.weight) (int_le e.weight MAX_LAG_WEIGHT)
    (true_int_le (neg_ℤ MAX_LAG_WEIGHT) e.weight l.light.at_least)
    (true_int_le e.weight MAX_LAG_WEIGHT l.light.at_most)))
    (unless-true (nat_le last e.from) Shape (le-leb last e.from after))))

no_lag_fault : (n place last : ℕ) (es : List Lag) → AreLags n last es → lag_fault n place last es ≡ None
no_lag_fault n place last [] h = refl
no_lag_fault n place last (e ∷ es) h =
    or_else-both (arc_fault n place last e) (lag_fault n (place + 1) e.from es)
    (no_arc_fault n place last e (All-head (IsLag n) e es h.fit) (All-head (λ (f : Lag). last ≤ f.from) e es h.after))
    (no_lag_fault n (place + 1) e.from es (record {
      fit = All-tail (IsLag n) e es h.fit;
      after = λ k d lt. h.rise zero (suc k) d (omega arith) (omega arith);
      rise = λ i j d less lt. h.rise (suc i) (suc j) d (omega arith) (omega arith);
    }))

no_amount_fault : (p : Problem) → IsProject p → amount_fault p ≡ None
no_amount_fault p is =
    or_else-both (unless (list_all is_amount p.durations) (Limit quantity.Duration)) _
    (unless-true (list_all is_amount p.durations) _
    (passes_all is_amount IsAmount p.durations amount_passes is.durations_fit))
    (or_else-both (unless (list_all (λ row. list_all is_amount row) p.demands) (Limit quantity.Demand)) _
    (unless-true (list_all (λ row. list_all is_amount row) p.demands) _
    (passes_all (λ row. list_all is_amount row) (λ row. All IsAmount row) p.demands
    (λ row h. passes_all is_amount IsAmount row amount_passes h) is.demands_fit))
    (unless-true (list_all is_amount p.capacities) _ (passes_all is_amount IsAmount p.capacities amount_passes is.capacities_fit)))

no_count_fault : (p : Problem) → IsProject p → count_fault p ≡ None
no_count_fault p is =
    or_else-both (unless (nat_le (activity_count p) MAX_ACTIVITIES) (Limit quantity.Activities)) _
    (unless-true (nat_le (activity_count p) MAX_ACTIVITIES) _
    (le-leb (activity_count p) MAX_ACTIVITIES is.activity_limit))
    (or_else-both (unless (nat_le (resource_count p) MAX_RESOURCES) (Limit quantity.Resources)) _
    (unless-true (nat_le (resource_count p) MAX_RESOURCES) _
    (le-leb (resource_count p) MAX_RESOURCES is.resource_limit))
    (unless-true (nat_le (length p.lags) MAX_LAGS) _ (le-leb (length p.lags) MAX_LAGS is.lag_limit)))

pub no_fault-from_IsProject : (p : Problem) → IsProject p → first_fault p ≡ None
no_fault-from_IsProject p is =
    let wide = passes_all (λ row. nat_eq (length row) (resource_count p)) (λ row. length row ≡ resource_count p)
    p.demands (λ row h. eq-eqb (length row) (resource_count p) h) is.demand_columns in
    or_else-both (shape_fault p) _ (sym (no_shape_fault p is.two_dummies is.demand_rows wide))
    (or_else-both (count_fault p) _ (no_count_fault p is)
    (or_else-both (dummy_fault p 0) _ (no_dummy_fault p 0 is.start_is_dummy)
    (or_else-both (dummy_fault p (end_of p)) _ (no_dummy_fault p (end_of p) is.end_is_dummy)
    (or_else-both (amount_fault p) (lag_fault (activity_count p) 0 0 p.lags) (no_amount_fault p is)
    (no_lag_fault (activity_count p) 0 0 p.lags (record { fit = is.lags_fit; after = λ k d lt. omega arith; rise = is.lags_rise }))))))

-- parts with a fault are no project
pub not_project : (p : Problem) (f : ProjectFault) → first_fault p ≡ Some f → IsProject p → ⊥
not_project p f e is = let none = no_fault-from_IsProject p is in cc

-- a fact that holds anyway holds of an error
pub on_err : {T E P : Type 0} (r : Result T E) → P → OnErr r P
on_err (Ok x) h = tt
on_err (Err e) h = h

-- ---- The arcs of a project and pairs join activity_count, and are within the limits.

-- what an arc needs
pub record IsArc (n : ℕ) (e : Lag) : Type 0 where
  pub from_activity : e.from < n
  pub to_activity : e.to < n
  pub light : IsWithin MAX_LAG_WEIGHT e.weight

mapped : (f : ℕ → Lag) (a n : ℕ) (e : Lag) → Contains (map f (range_with_len a n)) e → (i : ℕ) × (i < n) × (e ≡ f (a + i))
mapped f a n e c =
    let len = length-map-range_with_len f a n in
    let lt : c.0 < n = rw (← len) c.1 in
    (c.0, lt, sym c.2 ∙ get_or-map-range_with_len f a n c.0 (a + c.0) e lt (omega arith))

pub mapped_list : (f : Pair → Lag) (e : Lag) (qs : List Pair) (k : ℕ) → k < length (map f qs)
    → get_or (map f qs) k e ≡ e → (q : Pair) × Contains qs q × (e ≡ f q)
mapped_list f e qs k lt is =
    let none : Pair = record { before = 0; after = 0 } in
    let len : length (map f qs) ≡ length qs = length-map qs f in
    let lt' : k < length qs = omega (arith, len) in
    (get_or qs k none, Contains-get_or qs k none lt', sym is ∙ get_or-map f qs k none e lt')

lag_is_arc : (n : ℕ) (e : Lag) → IsLag n e → IsArc n e
lag_is_arc n e l = record { from_activity = l.from_activity; to_activity = l.to_activity; light = l.light }

duration_within : (p : Problem) → IsProject p → (i : ℕ) → i < activity_count p → IsWithin MAX_LAG_WEIGHT (duration p i)
duration_within p is i lt =
    let amount : IsAmount (duration p i) = All-get_or IsAmount p.durations i (pos 0) lt is.durations_fit in
    let low : pos 0 ≤ℤ duration p i = amount.at_least in
    record { at_least = omega (arith, ints); at_most = amount.at_most }

pub arc-of : (p : Problem) (pairs : List Pair) → IsProject p → NameActivities p pairs → (e : Lag) → Contains (arcs_of p pairs) e → IsArc (activity_count p) e
arc-of p pairs is named e c =
    let two : 2 ≤ activity_count p = is.two_dummies in
    elim (Contains-append_cases (rules p) (map (pair_arc p) pairs) e c) [
      | inl r ↦ elim (Contains-append_cases p.lags (implied_arcs p) e r) [
        | inl g ↦ lag_is_arc (activity_count p) e (All-contains (IsLag (activity_count p)) p.lags e is.lags_fit g)
        | inr i ↦ elim (Contains-append_cases (map start_arc (range_with_len 1 (end_of p))) (map (end_arc p) (range_with_len 0 (end_of p))) e i) [
          | inl s ↦
              let m = mapped start_arc 1 (end_of p) e s in
              let lt : m.0 < end_of p = m.1 in
              rw m.2 (record {
                from_activity = omega arith;
                to_activity = omega arith;
                light =
                    record { at_least = omega (arith, ints); at_most = omega (arith, ints) };
              })
          | inr s ↦
              let m = mapped (end_arc p) 0 (end_of p) e s in
              let lt : m.0 < end_of p = m.1 in
              rw m.2 (record { from_activity = omega arith; to_activity = omega arith; light = duration_within p is (0 + m.0) (omega arith) })
        ]
      ]
      | inr q ↦
          let m = mapped_list (pair_arc p) e pairs q.0 q.1 q.2 in
          let both = All-contains (λ (z : Pair). (z.before < activity_count p) × (z.after < activity_count p)) pairs m.0 named m.1 in
          rw m.2 (record { from_activity = both.0; to_activity = both.1; light = duration_within p is m.0.before both.0 })
    ]

pub AreInside-arcs_of : (p : Problem) (pairs : List Pair) → IsProject p → NameActivities p pairs → AreInside (activity_count p) (arcs_of p pairs)
AreInside-arcs_of p pairs is named = λ e c. let a = arc-of p pairs is named e c in (a.from_activity, a.to_activity)

pub AreLight-arcs_of : (p : Problem) (pairs : List Pair) → IsProject p → NameActivities p pairs → AreLight (arcs_of p pairs)
AreLight-arcs_of p pairs is named = λ e c. (arc-of p pairs is named e c).light

-- ---- One more element at the end of a list that a loop builds.

pub appended_more : {X : Type 0} (f : ℕ → X) (a n j : ℕ) (x : X) (xs ys zs : List X)
    → ys ≡ xs ++ map f (range_with_len a n) → zs ≡ ys ++ x ∷ [] → a + n ≡ j → x ≡ f j →
    zs ≡ xs ++ map f (range_with_len a (n + 1))
appended_more f a n j x xs ys zs e h k is =
    rw (map-range_with_len_more f a n j k, h, e, is) (append_assoc xs (map f (range_with_len a n)) (f j ∷ []))

-- a test of each row, by what the code holds
pub rows_all : {Y : Type 0} (p : List ℤ → Bool) (h : Y → List ℤ) (ys : List Y) → list_all p (map h ys) ≡ list_all (λ y. p (h y)) ys
rows_all p h ys = list_all-map p h ys

-- the row of an activity, as the struct keeps it and as a caller sees it
pub row_at : (rows : List (Vec ℤ Global)) (i : ℕ) (row : Vec ℤ Global) → i < length rows → row ≡ get_or rows i row
    → get_or (map (λ r. r.items) rows) i [] ≡ row.items
row_at rows i row h e = get_or-map (λ r. r.items) rows i row [] h ∙ ap (λ r. r.items) (sym e)

-- ---- How long the rows of demands are, as the struct keeps them and as a caller sees them.

row_long : (p : Problem) → IsProject p → (i : ℕ) → i < activity_count p → length (get_or p.demands i []) ≡ resource_count p
row_long p is i lt =
    let rows : length p.demands ≡ activity_count p = is.demand_rows in
    let inside : i < length p.demands = omega arith in
    All-get_or (λ (row : List ℤ). length row ≡ resource_count p) p.demands i [] inside is.demand_columns

-- the row that the struct keeps of an activity has a demand for each resource
pub row_count : (parts : Parts) (q : Problem) (i : ℕ) (row : Vec ℤ Global) → problem_of parts ≡ q
    → IsProject (problem_of parts) → i < activity_count q → row ≡ get_or parts.demands.items i row →
    length row.items ≡ resource_count q
row_count parts q i row view is lt at =
    let P : Problem → Type 0 = λ v. i < activity_count v → length row.items ≡ resource_count v in
    subst P view here lt
  where
    here : i < activity_count (problem_of parts) → length row.items ≡ resource_count (problem_of parts)
    here lt' =
        let rows : length (problem_of parts).demands ≡ activity_count (problem_of parts) = is.demand_rows in
        let same : length (problem_of parts).demands ≡ length parts.demands.items = length-map parts.demands.items (λ (r : Vec ℤ Global). r.items) in
        let inside : i < length parts.demands.items = omega arith in
        ap (λ (r : List ℤ). length r) (sym (row_at parts.demands.items i row inside at)) ∙ row_long (problem_of parts) is i lt'
