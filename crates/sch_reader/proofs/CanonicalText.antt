-- The canonical text of a project spells it, and is within the limit.
use Rattle.std.proofs.Common.{◌≡◌, ℕ, zero, suc, ◌+◌, ◌-◌, ◌*◌, ◌≤◌, ◌<◌, Bool, true, false, cond, inl, inr, eqb, leb, List, [], ◌∷◌, ◌++◌, length, map, get_or}
use Rattle.std.proofs.Common.{ℤ, pos, Some, refl, sym, ap, subst, ◌∙◌, append_assoc, length-append, mul-le-mul, arith, codes}
use Rattle.std.specs.List.{All, filter, flat_map, range_with_len}
use Rattle.std.specs.Fmt.{decimal, signed_decimal}
use Rattle.std.proofs.lemmas.Bool.{cases_order, eq-eqb, ne_eqb, le-leb, lt-leb}
use Rattle.std.proofs.lemmas.Int.{ints}
use Rattle.std.proofs.lemmas.List.{append-nil, length-map}
use Rattle.std.proofs.lemmas.List.Concat.{flat_map-append}
use Rattle.std.proofs.lemmas.List.Elements.{All-filter, All-head, All-tail}
use Rattle.network.specs.declared.parts.Lag.{Lag}
use Rattle.network.specs.declared.limits.TheConstants.{MAX_ACTIVITIES, MAX_LAG_WEIGHT, MAX_RESOURCES}
use Rattle.network.specs.Problem.{Problem, activities, activity_count, resource_count, IsAmount, IsWithin, IsLag, IsProject}
use Rattle.words.specs.Words.{words}
use Rattle.sch_reader.specs.Text.{text_words, token, lags_from, network_numbers, request_numbers, flat, Spells, line, bracketed, header_row, network_row}
use Rattle.sch_reader.specs.Text.{amounts_row, request_row, capacity_rows, canonical_text}
use Rattle.sch_reader.proofs.NetworkRows.{row_numbers}
use Rattle.sch_reader.proofs.Printed.{decimal_prints, signed_prints, bracketed_prints, zero_prints, one_prints, AllPrint, AllPrint-append, AllPrint-map, Writes}
use Rattle.sch_reader.proofs.Printed.{Writes-nil, Writes-append, line_writes}

-- ---- network rows

-- the arcs from this activity on
from_on : ℕ → List Lag → List Lag
from_on i lags = filter (λ a. leb i a.from) lags

-- those from the activity, and those from the next on
own_and_later : (i : ℕ) (lags : List Lag) → length (lags_from i lags) + length (from_on (i + 1) lags) ≡ length (from_on i lags)
unfolding from_on
own_and_later i [] = refl
own_and_later i (a ∷ lags) =
    let ih = own_and_later i lags in
    elim (cases_order a.from i) [
      | inl same ↦ rw (eq-eqb a.from i same, le-leb i a.from (omega (arith, same)), lt-leb (i + 1) a.from (omega (arith, same))) (omega (arith, ih))
      | inr apart ↦ elim apart [
        | inl below ↦ rw (ne_eqb a.from i (λ e. omega (arith, below, e)), lt-leb i a.from below, lt-leb (i + 1) a.from (omega (arith, below))) ih
        | inr above ↦ rw (
          ne_eqb a.from i (λ e. omega (arith, above, e)),
          le-leb i a.from (omega (arith, above)),
          le-leb (i + 1) a.from (omega (arith, above)),
        ) (omega (arith, ih))
      ]
    ]

few_on : (i : ℕ) (lags : List Lag) → length (from_on i lags) ≤ length lags
unfolding from_on
few_on i [] = omega arith
few_on i (a ∷ lags) = by_test (leb i a.from) (few_on i lags)
  where
    by_test : (b : Bool) → length (from_on i lags) ≤ length lags → length (cond b (a ∷ from_on i lags) (from_on i lags)) ≤ suc (length lags)
    by_test true ih = omega (arith, ih)
    by_test false ih = omega (arith, ih)

few_of : (i : ℕ) (lags : List Lag) → length (lags_from i lags) ≤ length lags
few_of i lags = omega (arith, own_and_later i lags, few_on i lags)

row_writes : (p : Problem) → IsProject p → (i : ℕ) → i < MAX_ACTIVITIES → Writes (line (network_row p i)) (row_numbers i (lags_from i p.lags))
row_writes p is i small =
    let own = lags_from i p.lags in
    let fit : All (IsLag (activity_count p)) own = All-filter (λ a. eqb a.from i) (IsLag (activity_count p)) p.lags is.lags_fit in
    let ends = AllPrint-map (IsLag (activity_count p)) (λ a. decimal a.to) (λ a. pos a.to) own
    (λ a h. decimal_prints a.to (omega (arith, h.to_activity, is.activity_limit))) fit in
    let weights = AllPrint-map (IsLag (activity_count p)) (λ a. bracketed a.weight) (λ a. a.weight) own (λ a h. bracketed_prints a.weight h.light) fit in
    let both = AllPrint-append (map (λ a. decimal a.to) own) (map (λ a. bracketed a.weight) own)
    (map (λ a. pos a.to) own) (map (λ a. a.weight) own) ends weights in
    line_writes (decimal i) (codes "1" ∷ decimal (length own) ∷
    (map (λ a. decimal a.to) own ++ map (λ a. bracketed a.weight) own)) (pos i)
    (pos 1 ∷ pos (length own) ∷ (map (λ a. pos a.to) own ++ map (λ a. a.weight) own))
    (decimal_prints i (omega (arith, small))) (one_prints, (decimal_prints (length own) (omega (arith, few_of i p.lags, is.lag_limit)), both))

network_writes : (p : Problem) → IsProject p → (count i : ℕ) → i + count ≤ MAX_ACTIVITIES
    → Writes (flat_map line (map (network_row p) (range_with_len i count))) (network_numbers count i p.lags)
network_writes p is zero i small = Writes-nil
network_writes p is (suc count) i small =
    let own = lags_from i p.lags in
    let here = row_writes p is i (omega arith) in
    let others = network_writes p is count (i + 1) (omega arith) in
    let grouped : row_numbers i own ++ network_numbers count (i + 1) p.lags ≡ network_numbers (suc count) i p.lags =
    ap (λ (r : List ℤ). pos i ∷ pos 1 ∷ pos (length own) ∷ r)
    (append_assoc (map (λ a. pos a.to) own) (map (λ a. a.weight) own) (network_numbers count (i + 1) p.lags)) in
    subst (λ (zs : List ℤ). Writes (flat_map line (map (network_row p) (range_with_len i (suc count)))) zs) grouped
    (Writes-append (line (network_row p i)) (flat_map line (map (network_row p) (range_with_len (i + 1) count)))
    (row_numbers i own) (network_numbers count (i + 1) p.lags) here others)

network_size : (count i : ℕ) (lags : List Lag) → length (network_numbers count i lags) ≤ 3 * count + 2 * length (from_on i lags)
network_size zero i lags = omega arith
network_size (suc count) i lags =
    let own = lags_from i lags in
    let others = network_numbers count (i + 1) lags in
    let ends = map (λ a. pos a.to) own in
    let weights = map (λ a. a.weight) own in
    let row : length (ends ++ (weights ++ others)) ≡ length own + (length own + length others) =
    length-append ends (weights ++ others)
    ∙ ap2' (length-map own (λ a. pos a.to))
    (length-append weights others ∙ ap (λ (n : ℕ). n + length others) (length-map own (λ a. a.weight))) in
    omega (arith, row, network_size count (i + 1) lags, own_and_later i lags)
  where
    ap2' : {m n k l : ℕ} → m ≡ n → k ≡ l → m + k ≡ n + l
    ap2' e f = rw (e, f) refl

-- ---- request rows

request_size : (i width : ℕ) (durations : List ℤ) (demands : List (List ℤ)) → All (λ row. length row ≡ width) demands
    → length (request_numbers i durations demands) ≤ (3 + width) * length durations
request_size i width (time ∷ durations) (row ∷ demands) each =
    let here : length row ≡ width = All-head (λ (r : List ℤ). length r ≡ width) row demands each in
    omega (
      arith,
      here,
      length-append row (request_numbers (i + 1) durations demands),
      request_size (i + 1) width durations demands (All-tail (λ (r : List ℤ). length r ≡ width) row demands each),
    )
request_size i width durations demands each = omega arith

light : (z : ℤ) → IsAmount z → IsWithin MAX_LAG_WEIGHT z
light z h = record { at_least = omega (arith, ints, h.at_least); at_most = omega (arith, ints, h.at_most) }

amounts_print : (zs : List ℤ) → All IsAmount zs → AllPrint (map signed_decimal zs) zs
amounts_print [] each = tt
amounts_print (z ∷ zs) each = (signed_prints z (light z (All-head IsAmount z zs each)), amounts_print zs (All-tail IsAmount z zs each))

request_writes : (f : ℕ → List (List ℕ)) (i : ℕ) (durations : List ℤ) (demands : List (List ℤ))
    → i + length durations ≤ MAX_ACTIVITIES → length demands ≡ length durations → All IsAmount durations
    → All (λ row. All IsAmount row) demands
    → ((k : ℕ) → k < length durations → f (i + k) ≡ amounts_row (i + k) (get_or durations k (pos 0)) (get_or demands k []))
    → Writes (flat_map line (map f (range_with_len i (length durations)))) (request_numbers i durations demands)
request_writes f i [] demands small same times needs each = Writes-nil
request_writes f i (time ∷ durations) [] small same times needs each = absurd (omega (arith, same))
request_writes f i (time ∷ durations) (row ∷ demands) small same times needs each =
    let here : f i ≡ amounts_row i time row = let e : i + 0 ≡ i = omega arith in subst (λ (j : ℕ). f j ≡ amounts_row j time row) e (each 0 (omega arith)) in
    let first = line_writes (decimal i) (codes "1" ∷ signed_decimal time ∷ map signed_decimal row) (pos i)
    (pos 1 ∷ time ∷ row) (decimal_prints i (omega (arith, small))) (
      one_prints,
      (
        signed_prints time (light time (All-head IsAmount time durations times)),
        amounts_print row (All-head (λ (r : List ℤ). All IsAmount r) row demands needs),
      ),
    ) in
    let others = request_writes f (i + 1) durations demands (omega (arith, small)) (omega (arith, same))
    (All-tail IsAmount time durations times) (All-tail (λ (r : List ℤ). All IsAmount r) row demands needs)
    (λ k lt. let e : i + suc k ≡ (i + 1) + k = omega arith
    in subst (λ (j : ℕ). f j ≡ amounts_row j (get_or durations k (pos 0)) (get_or demands k [])) e
    (each (suc k) (omega arith))) in
    Writes-append (line (f i)) (flat_map line (map f (range_with_len (i + 1) (length durations))))
    (pos i ∷ pos 1 ∷ time ∷ row) (request_numbers (i + 1) durations demands)
    (subst (λ (r : List (List ℕ)). Writes (line r) (pos i ∷ pos 1 ∷ time ∷ row)) (sym here) first) others

capacities_write : (zs : List ℤ) → All IsAmount zs → Writes (flat_map line (capacity_rows zs)) zs
capacities_write [] each = Writes-nil
capacities_write (z ∷ zs) each =
    let row = line (map signed_decimal (z ∷ zs)) in
    subst (λ (t : List ℕ). Writes t (z ∷ zs)) (sym (append-nil row))
    (line_writes (signed_decimal z) (map signed_decimal zs) z zs
    (signed_prints z (light z (All-head IsAmount z zs each))) (amounts_print zs (All-tail IsAmount z zs each)))

-- ---- the whole text

header_writes : (p : Problem) → IsProject p → Writes (line (header_row p)) (pos (activity_count p - 2) ∷ pos (resource_count p) ∷ pos 0 ∷ pos 0 ∷ [])
header_writes p is =
    line_writes (decimal (activity_count p - 2)) (decimal (resource_count p) ∷ codes "0" ∷ codes "0" ∷ [])
    (pos (activity_count p - 2)) (pos (resource_count p) ∷ pos 0 ∷ pos 0 ∷ [])
    (decimal_prints (activity_count p - 2) (omega (arith, is.activity_limit)))
    (decimal_prints (resource_count p) (omega (arith, is.resource_limit)), (zero_prints, (zero_prints, tt)))

pub canonical_writes : (p : Problem) → IsProject p → Writes (canonical_text p) (flat p)
unfolding canonical_text flat
canonical_writes p is =
    let network = map (network_row p) (activities p) in
    let requests = map (request_row p) (activities p) in
    let one = network_writes p is (activity_count p) 0 (omega (arith, is.activity_limit)) in
    let two = request_writes (request_row p) 0 p.durations p.demands (omega (arith, is.activity_limit)) is.demand_rows
    is.durations_fit is.demands_fit (λ k lt. let e : 0 + k ≡ k = omega arith in rw e refl) in
    let three = capacities_write p.capacities is.capacities_fit in
    let numbers = request_numbers 0 p.durations p.demands in
    let later = Writes-append (flat_map line requests) (flat_map line (capacity_rows p.capacities)) numbers p.capacities two three in
    let from_network = Writes-append (flat_map line network)
    (flat_map line requests ++ flat_map line (capacity_rows p.capacities))
    (network_numbers (activity_count p) 0 p.lags) (numbers ++ p.capacities) one later in
    let all = Writes-append (line (header_row p))
    (flat_map line network ++ (flat_map line requests ++ flat_map line (capacity_rows p.capacities)))
    (pos (activity_count p - 2) ∷ pos (resource_count p) ∷ pos 0 ∷ pos 0 ∷ [])
    (network_numbers (activity_count p) 0 p.lags ++ (numbers ++ p.capacities)) (header_writes p is) from_network in
    let split : flat_map line (network ++ (requests ++ capacity_rows p.capacities)) ≡ flat_map line network ++
    (flat_map line requests ++ flat_map line (capacity_rows p.capacities)) =
    flat_map-append line network (requests ++ capacity_rows p.capacities)
    ∙ ap (λ (r : List ℕ). flat_map line network ++ r) (flat_map-append line requests (capacity_rows p.capacities))
    in
    subst (λ (r : List ℕ). Writes (line (header_row p) ++ r) (flat p)) (sym split) all

-- the parts of the text, one after the other
pub canonical_written : (p : Problem) (start first second third whole : List ℕ) → start ≡ []
    → first ≡ start ++ line (header_row p) → second ≡ first ++ flat_map line (map (network_row p) (activities p))
    → third ≡ second ++ flat_map line (map (request_row p) (activities p))
    → whole ≡ third ++ flat_map line (capacity_rows p.capacities) → whole ≡ canonical_text p
unfolding canonical_text
canonical_written p start first second third whole none a b c d =
    let network = map (network_row p) (activities p) in
    let requests = map (request_row p) (activities p) in
    rw (
      d,
      c,
      b,
      a,
      none,
      flat_map-append line network (requests ++ capacity_rows p.capacities),
      flat_map-append line requests (capacity_rows p.capacities),
    ) (simp append_assoc refl)

-- how many numbers spell a project
numbers_few : (p : Problem) → IsProject p → length (flat p) ≤ 238112
unfolding flat
numbers_few p is =
    let network = network_numbers (activity_count p) 0 p.lags in
    let requests = request_numbers 0 p.durations p.demands in
    let columns : 3 + resource_count p ≤ 3 + MAX_RESOURCES = omega (arith, is.resource_limit) in
    let small : (3 + resource_count p) * activity_count p ≤ (3 + MAX_RESOURCES) * MAX_ACTIVITIES = mul-le-mul columns is.activity_limit in
    omega (
      arith,
      length-append network (requests ++ p.capacities),
      length-append requests p.capacities,
      network_size (activity_count p) 0 p.lags,
      few_on 0 p.lags,
      is.lag_limit,
      request_size 0 (resource_count p) p.durations p.demands is.demand_columns,
      small,
      is.activity_limit,
      is.resource_limit,
    )

-- the canonical text of a project spells it
pub canonical_spells : (p : Problem) → IsProject p → Spells (canonical_text p) p
unfolding words
canonical_spells p is =
    let w = canonical_writes p is in
    let read : map token (text_words (canonical_text p)) ≡ map Some (flat p) ++ [] =
    subst (λ (t : List ℕ). map token (text_words t) ≡ map Some (flat p) ++ []) (append-nil (canonical_text p))
    (w.reads []) in
    record { size = omega (arith, w.size, numbers_few p is); spelled = read ∙ append-nil (map Some (flat p)) }
