-- What the layout of a project text leads to.
use Rattle.std.proofs.Common.{◌≡◌, ℕ, ◌+◌, ◌-◌, ◌≤◌, true, List, [], ◌∷◌, ◌++◌, length, ℤ, pos, nat_abs, sym, subst, arith, refl, ◌<◌, eqb, get_or, ◌∙◌, inl}
use Rattle.std.proofs.Common.{inr, ◌||◌}
use Rattle.std.specs.List.{AllByRecursion, All}
use Rattle.sch_reader.specs.declared.place.Place.TheVariants as places
use Rattle.network.specs.declared.parts.Lag.{Lag}
use Rattle.network.specs.declared.limits.TheConstants.{MAX_ACTIVITIES, MAX_LAGS, MAX_RESOURCES}
use Rattle.network.specs.Problem.{Problem, activity_count, end_of, resource_count, duration, IsAmount, IsDummy, IsProject}
use Rattle.sch_reader.specs.Layout.{Layout, Requests, done, fits, row_of, header, network_rows, request_rows, project_text, ◌>>=◌, amount_place}
use Rattle.sch_reader.specs.Text.{flat, network_numbers, request_numbers}
use Rattle.sch_reader.proofs.Layouts.{Reaches, through, Reaches-bind}
use Rattle.sch_reader.proofs.Printed.{exactly, up_to, is_between_from}
use Rattle.sch_reader.proofs.NetworkRows.{first, finished, next_is, joined_is, alone_is, row_found, AreInOrder, IsEnd, network_rows_found, row_again}
use Rattle.sch_reader.proofs.NetworkRows.{network_rows_again, Reaches-made, order_from, in_order_all, lags_from_ends, ends_from_lags}
use Rattle.sch_reader.proofs.RequestRows.{AreRequests, request_rows_found, request_rows_again, IsRequestAt, amount_from, amount_fits, amount_there}
use Rattle.sch_reader.proofs.RequestRows.{nothing_there, fits_there, is_first, is_last, requests_from, requests_count, request_at}
use Rattle.std.proofs.lemmas.Int.{ints}
use Rattle.std.proofs.lemmas.Bool.{eqb-true, or_cases}
use Rattle.std.proofs.lemmas.List.Elements.{All-weaker, All-get_or, All-from_get_or, All-from_recursion, recursion_from_All}
use Rattle.sch_reader.proofs.Exact.{IsExact}

pub record IsHeader (zs : List ℤ) (h : ℕ × ℕ) : Type 0 where
  pub same : zs ≡ pos h.0 ∷ pos h.1 ∷ pos 0 ∷ pos 0 ∷ []
  pub few : h.0 + 2 ≤ MAX_ACTIVITIES
  pub resources : h.1 ≤ MAX_RESOURCES

header_found : (zs : List ℤ) (h : ℕ × ℕ) → Reaches header zs (done h) → IsHeader zs h
unfolding header
header_found zs h r =
    let n = first places.Activities _ zs h r in
    let k = first places.Resources _ n.rest h n.after in
    let third = first places.OtherResources _ k.rest h k.after in
    let fourth = first places.OtherResources _ third.rest h third.after in
    let f = finished (nat_abs n.number, nat_abs k.number) h fourth.rest fourth.after in
    let un = up_to (MAX_ACTIVITIES - 2) n.number n.fit in
    let uk = up_to MAX_RESOURCES k.number k.fit in
    let zeros : k.rest ≡ pos 0 ∷ pos 0 ∷ [] =
    next_is k.rest third.rest _ third.number (pos 0) third.parts (exactly 0 third.number third.fit)
    (next_is third.rest fourth.rest [] fourth.number (pos 0) fourth.parts (exactly 0 fourth.number fourth.fit) f.0)
    in
    let same : zs ≡ pos (nat_abs n.number) ∷ pos (nat_abs k.number) ∷ pos 0 ∷ pos 0 ∷ [] =
    next_is zs n.rest _ n.number (pos (nat_abs n.number)) n.parts un.0 (next_is n.rest k.rest _ k.number (pos (nat_abs k.number)) k.parts uk.0 zeros) in
    subst (λ (v : ℕ × ℕ). IsHeader zs v) f.1 (record { same = same; few = omega (arith, un.1); resources = uk.1 })

-- a project, as its rows are read
pub record IsAccepted (p : Problem) : Type 0 where
  pub n : ℕ
  pub few : n + 2 ≤ MAX_ACTIVITIES
  pub count : length p.durations ≡ n + 2
  pub resources : length p.capacities ≤ MAX_RESOURCES
  pub requests : AreRequests (n + 1) (length p.capacities) 0 p.durations p.demands
  pub capacities : AllByRecursion (λ z. fits places.Amount z ≡ true) p.capacities
  pub few_lags : length p.lags ≤ MAX_LAGS
  pub order : AreInOrder 0 p.lags
  pub ends : AllByRecursion (IsEnd (n + 1) (0 + (n + 2))) p.lags

-- ---- what comes after the header, after the network rows, and after the request rows

abbrev pub problem_from : List Lag → Requests → List ℤ → Problem
problem_from lags requests capacities = record { durations = requests.durations; demands = requests.demands; capacities = capacities; lags = lags }

abbrev pub after_requests : ℕ → List Lag → Requests → Layout Problem
after_requests k lags requests = row_of k places.Amount >>= λ capacities. done (problem_from lags requests capacities)

abbrev pub after_lags : ℕ → ℕ → List Lag → Layout Problem
after_lags n k lags = request_rows (n + 2) (n + 1) k 0 >>= λ requests. after_requests k lags requests

abbrev pub after_header : ℕ × ℕ → Layout Problem
after_header h = network_rows (h.0 + 2) (h.0 + 1) MAX_LAGS 0 >>= λ lags. after_lags h.0 h.1 lags

-- the numbers of the parts are the flat list
flat_from : (n k : ℕ) (zs : List ℤ) (p : Problem) → length p.durations ≡ n + 2 → length p.capacities ≡ k
    → zs ≡ (pos n ∷ pos k ∷ pos 0 ∷ pos 0 ∷ []) ++ (network_numbers (n + 2) 0 p.lags ++ (request_numbers 0 p.durations p.demands ++ p.capacities)) → flat p ≡ zs
unfolding flat
flat_from n k zs p count row whole =
    let n_is : length p.durations - 2 ≡ n = omega (arith, count) in
    rw (n_is, count, row) (sym whole)

accepted_by : (n k : ℕ) (p : Problem) → n + 2 ≤ MAX_ACTIVITIES → k ≤ MAX_RESOURCES → length p.durations ≡ n + 2
    → length p.capacities ≡ k → AreRequests (n + 1) k 0 p.durations p.demands
    → AllByRecursion (λ z. fits places.Amount z ≡ true) p.capacities → length p.lags ≤ MAX_LAGS → AreInOrder 0 p.lags
    → AllByRecursion (IsEnd (n + 1) (0 + (n + 2))) p.lags → IsAccepted p
accepted_by n k p few small count row requests fit few_lags order ends =
    record {
      n = n;
      few = few;
      count = count;
      resources = rw row small;
      requests = rw row requests;
      capacities = fit;
      few_lags = few_lags;
      order = order;
      ends = ends;
    }

pub accepted_found : (zs : List ℤ) (p : Problem) → Reaches project_text zs (done p) → IsAccepted p × (flat p ≡ zs)
unfolding project_text
accepted_found zs p r =
    let a = through header after_header zs p r in
    let n = a.value.0 in
    let k = a.value.1 in
    let head = header_found a.first a.value a.to_value in
    let b = through (network_rows (n + 2) (n + 1) MAX_LAGS 0) (after_lags n k) a.second p a.after in
    let lags = network_rows_found (n + 2) (n + 1) MAX_LAGS 0 b.first b.value b.to_value in
    let c = through (request_rows (n + 2) (n + 1) k 0) (after_requests k b.value) b.second p b.after in
    let requests = request_rows_found (n + 2) (n + 1) k 0 c.first c.value c.to_value in
    let d = through (row_of k places.Amount) (λ capacities. done (problem_from b.value c.value capacities)) c.second p c.after in
    let row = row_found k places.Amount d.first d.value d.to_value in
    let made = problem_from b.value c.value d.value in
    let f = finished made p d.second d.after in
    let capacities_on = alone_is c.second d.first d.second d.value d.parts f.0 row.same in
    let asked = request_numbers 0 c.value.durations c.value.demands in
    let rest = network_numbers (n + 2) 0 b.value ++ (asked ++ d.value) in
    let requests_on = joined_is b.second c.first c.second asked d.value c.parts requests.same capacities_on in
    let rows_on = joined_is a.second b.first b.second (network_numbers (n + 2) 0 b.value) (asked ++ d.value) b.parts lags.same requests_on in
    let is_flat = flat_from n k zs made requests.count row.len
    (joined_is zs a.first a.second (pos n ∷ pos k ∷ pos 0 ∷ pos 0 ∷ []) rest a.parts head.same rows_on) in
    let fit = accepted_by n k made head.few head.resources requests.count row.len requests.each row.fit lags.few lags.order lags.ends in
    subst (λ (v : Problem). IsAccepted v × (flat v ≡ zs)) {x = made} f.1 (fit, is_flat)

-- ---- The flat list of a project leads the layout to its end.

header_again : (n k : ℕ) → n + 2 ≤ MAX_ACTIVITIES → k ≤ MAX_RESOURCES → Reaches header (pos n ∷ pos k ∷ pos 0 ∷ pos 0 ∷ []) (done (n, k))
unfolding header
header_again n k few small = (
  is_between_from (pos 0) (pos (MAX_ACTIVITIES - 2)) (pos n) (omega (arith, ints)) (omega (arith, ints)),
  (is_between_from (pos 0) (pos MAX_RESOURCES) (pos k) (omega (arith, ints)) (omega (arith, ints)), (refl, (refl, refl))),
)

abbrev pair_of : ℕ → ℕ → ℕ × ℕ
pair_of n k = (n, k)

abbrev requests_of : Problem → Requests
requests_of p = record { durations = p.durations; demands = p.demands }

pub accepted_again : (p : Problem) → IsAccepted p → Reaches project_text (flat p) (done p)
unfolding project_text flat
accepted_again p a =
    let k = length p.capacities in
    let n_is : length p.durations - 2 ≡ a.n = omega (arith, a.count) in
    let network = network_numbers (a.n + 2) 0 p.lags in
    let requests = request_numbers 0 p.durations p.demands in
    let last = Reaches-made (row_of k places.Amount) (problem_from p.lags (requests_of p)) p.capacities p.capacities
    (row_again places.Amount p.capacities a.capacities) in
    let at_requests = Reaches-bind (request_rows (length p.durations) (a.n + 1) k 0) (after_requests k p.lags) (done p) (requests_of p) requests p.capacities
    (request_rows_again (a.n + 1) k 0 p.durations p.demands a.requests) last in
    let at_rows = Reaches-bind (network_rows (a.n + 2) (a.n + 1) MAX_LAGS 0) (after_lags a.n k) (done p) p.lags network (requests ++ p.capacities)
    (network_rows_again (a.n + 2) (a.n + 1) MAX_LAGS 0 (0 + (a.n + 2)) p.lags refl a.few_lags a.order a.ends) (rw a.count at at_requests) in
    let whole = Reaches-bind header after_header (done p) (pair_of a.n k) (pos a.n ∷ pos k ∷ pos 0 ∷ pos 0 ∷ [])
    (network ++ (requests ++ p.capacities)) (header_again a.n k a.few a.resources) at_rows in
    rw (n_is, a.count) whole

-- ---- The layout leads to just the flat lists of the projects within the limits.

-- ---- what is read is a project

-- an activity's duration and demands, as they were read
request_of : (p : Problem) (a : IsAccepted p) (i : ℕ) → i < activity_count p → IsRequestAt (a.n + 1) (resource_count p) i (duration p i) (get_or p.demands i [])
request_of p a i lt =
    let zero_first : 0 + i ≡ i = omega arith in
    subst (λ (k : ℕ). IsRequestAt (a.n + 1) (resource_count p) k (duration p i) (get_or p.demands i [])) zero_first
    (request_at (a.n + 1) (resource_count p) 0 p.durations p.demands a.requests i lt)

dummy_of : (p : Problem) (a : IsAccepted p) (i : ℕ) → i < activity_count p → (eqb i 0 || eqb i (a.n + 1)) ≡ true → IsDummy p i
dummy_of p a i lt is =
    let r = request_of p a i lt in
    record {
      no_time = nothing_there (a.n + 1) i (duration p i) is r.duration;
      no_demand = All-weaker (λ z. fits (amount_place (a.n + 1) i) z ≡ true) (λ z. z ≡ pos 0)
          (λ z. nothing_there (a.n + 1) i z is) (get_or p.demands i [])
          (All-from_recursion (λ z. fits (amount_place (a.n + 1) i) z ≡ true) (get_or p.demands i []) r.demands);
    }

row_of_amounts : (p : Problem) (a : IsAccepted p) (i : ℕ) → i < activity_count p → All IsAmount (get_or p.demands i [])
row_of_amounts p a i lt =
    All-weaker (λ z. fits (amount_place (a.n + 1) i) z ≡ true) IsAmount (amount_there (a.n + 1) i) (get_or p.demands i [])
    (All-from_recursion (λ z. fits (amount_place (a.n + 1) i) z ≡ true) (get_or p.demands i []) (request_of p a i lt).demands)

pub project_from : (p : Problem) → IsAccepted p → IsProject p
project_from p a =
    let rows : length p.demands ≡ activity_count p = requests_count (a.n + 1) (resource_count p) 0 p.durations p.demands a.requests in
    let order = in_order_all 0 p.lags a.order in
    let count : activity_count p ≡ a.n + 2 = a.count in
    let below : 0 + (a.n + 2) ≡ activity_count p = omega arith in
    let ends = subst (λ (k : ℕ). AllByRecursion (IsEnd (a.n + 1) k) p.lags) below a.ends in
    record {
      two_dummies = omega arith;
      activity_limit = omega (arith, a.few);
      resource_limit = a.resources;
      lag_limit = a.few_lags;
      demand_rows = rows;
      demand_columns = All-from_get_or (λ row. length row ≡ resource_count p) p.demands [] (λ i lt. (request_of p a i (omega arith)).count);
      start_is_dummy = dummy_of p a 0 (omega arith) (is_first (a.n + 1) 0 refl);
      end_is_dummy = dummy_of p a (end_of p) (omega arith) (is_last (a.n + 1) (end_of p) (omega arith));
      durations_fit = All-from_get_or IsAmount p.durations (pos 0) (λ i lt. amount_there (a.n + 1) i (duration p i) (request_of p a i lt).duration);
      demands_fit = All-from_get_or (λ row. All IsAmount row) p.demands [] (λ i lt. row_of_amounts p a i (omega arith));
      capacities_fit = All-weaker (λ z. fits places.Amount z ≡ true) IsAmount amount_from p.capacities
          (All-from_recursion (λ z. fits places.Amount z ≡ true) p.capacities a.capacities);
      lags_fit = lags_from_ends (a.n + 1) (activity_count p) p.lags (omega arith) ends;
      lags_rise = order.rise;
    }

-- ---- and a project is read

dummy_if : (p : Problem) → IsProject p → (last i : ℕ) → last ≡ end_of p → (eqb i 0 || eqb i last) ≡ true → IsDummy p i
dummy_if p is last i e dummy =
    elim (or_cases (eqb i 0) (eqb i last) dummy) [
      | inl first ↦ subst (λ (k : ℕ). IsDummy p k) (sym (eqb-true i 0 first)) is.start_is_dummy
      | inr there ↦ subst (λ (k : ℕ). IsDummy p k) (sym (eqb-true i last there ∙ e)) is.end_is_dummy
    ]

request_from : (p : Problem) → IsProject p → (last i : ℕ) → last ≡ end_of p → i < activity_count p
    → IsRequestAt last (resource_count p) i (duration p i) (get_or p.demands i [])
request_from p is last i e lt =
    let inside : i < length p.demands = omega (arith, is.demand_rows) in
    let dummy : (eqb i 0 || eqb i last) ≡ true → IsDummy p i = dummy_if p is last i e in
    let row = get_or p.demands i [] in
    let amounts : All IsAmount row = All-get_or (λ (r : List ℤ). All IsAmount r) p.demands i [] inside is.demands_fit in
    let each : All (λ z. fits (amount_place last i) z ≡ true) row = All-from_get_or (λ z. fits (amount_place last i) z ≡ true) row (pos 0) (λ k less.
    fits_there last i (get_or row k (pos 0)) (λ d. All-get_or (λ z. z ≡ pos 0) row k (pos 0) less (dummy d).no_demand)
    (All-get_or IsAmount row k (pos 0) less amounts)) in
    record {
      count = All-get_or (λ (r : List ℤ). length r ≡ resource_count p) p.demands i [] inside is.demand_columns;
      duration = fits_there last i (duration p i) (λ d. (dummy d).no_time) (All-get_or IsAmount p.durations i (pos 0) lt is.durations_fit);
      demands = recursion_from_All (λ z. fits (amount_place last i) z ≡ true) row each;
    }

pub accepted_from : (p : Problem) → IsProject p → IsAccepted p
accepted_from p is =
    let n = activity_count p - 2 in
    let two : 2 ≤ activity_count p = is.two_dummies in
    let count : activity_count p ≡ n + 2 = omega arith in
    let last : n + 1 ≡ end_of p = omega arith in
    let same_count : length p.durations ≡ length p.demands = sym is.demand_rows in
    let below : activity_count p ≡ 0 + (n + 2) = omega arith in
    record {
      n = n;
      few = omega (arith, is.activity_limit);
      count = count;
      resources = is.resource_limit;
      requests = requests_from (n + 1) (resource_count p) 0 p.durations p.demands same_count (λ i lt.
          let zero_first : i ≡ 0 + i = omega arith in
          subst (λ (k : ℕ). IsRequestAt (n + 1) (resource_count p) k (duration p i) (get_or p.demands i [])) zero_first (request_from p is (n + 1) i last lt));
      capacities = recursion_from_All (λ z. fits places.Amount z ≡ true) p.capacities
          (All-weaker IsAmount (λ z. fits places.Amount z ≡ true) amount_fits p.capacities is.capacities_fit);
      few_lags = is.lag_limit;
      order = order_from 0 p.lags (λ i d lt. omega arith) is.lags_rise;
      ends = subst (λ (k : ℕ). AllByRecursion (IsEnd (n + 1) k) p.lags) below (ends_from_lags (n + 1) (activity_count p) p.lags (omega arith) is.lags_fit);
    }

-- ---- so the layout is exact

project_found : (zs : List ℤ) (p : Problem) → Reaches project_text zs (done p) → IsProject p × (flat p ≡ zs)
project_found zs p h = let f = accepted_found zs p h in (project_from p f.0, f.1)

project_again : (p : Problem) → IsProject p → Reaches project_text (flat p) (done p)
project_again p is = accepted_again p (accepted_from p is)

pub exact : IsExact
exact = record { found = project_found; again = project_again }
