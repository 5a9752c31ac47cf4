-- What the layout of the request rows leads to.
use Rattle.std.proofs.Common.{◌≡◌, ℕ, zero, suc, ◌+◌, true, List, [], ◌∷◌, ◌++◌, length, ℤ, pos, refl, ap, subst, arith, ◌<◌, Bool, false, cond, eqb, get_or}
use Rattle.std.proofs.Common.{add-zero, ◌||◌}
use Rattle.std.specs.List.{AllByRecursion}
use Rattle.sch_reader.specs.declared.place.Place.TheVariants as places
use Rattle.sch_reader.specs.Layout.{done, fits, row_of, request_row, request_rows, Requests, both, no_requests, amount_place, ◌>>=◌}
use Rattle.sch_reader.specs.Text.{request_numbers}
use Rattle.sch_reader.proofs.Layouts.{Reaches, through, Reaches-bind}
use Rattle.sch_reader.proofs.Printed.{exactly, is_between_from, within}
use Rattle.sch_reader.proofs.NetworkRows.{first, finished, next_is, joined_is, alone_is, row_found, row_again, Reaches-made}
use Rattle.std.proofs.lemmas.Int.{ints}
use Rattle.std.proofs.lemmas.Bool.{eq-eqb, or_left, or_right}
use Rattle.network.specs.declared.limits.TheConstants.{MAX_AMOUNT}
use Rattle.network.specs.Problem.{IsAmount}

-- a duration and demands that fit their place
pub record IsRequest (last resources id : ℕ) (zs : List ℤ) (r : ℤ × List ℤ) : Type 0 where
  pub same : zs ≡ pos id ∷ pos 1 ∷ r.0 ∷ r.1
  pub count : length r.1 ≡ resources
  pub duration : fits (amount_place last id) r.0 ≡ true
  pub demands : AllByRecursion (λ z. fits (amount_place last id) z ≡ true) r.1

pub request_row_found : (last resources id : ℕ) (zs : List ℤ) (r : ℤ × List ℤ)
    → Reaches (request_row last resources id) zs (done r) → IsRequest last resources id zs r
unfolding request_row
request_row_found last resources id zs r h =
    let found = first (places.Id (last + 1 + id) id) _ zs r h in
    let mode = first (places.Mode (last + 1 + id)) _ found.rest r found.after in
    let duration = first (amount_place last id) _ mode.rest r mode.after in
    let b = through (row_of resources (amount_place last id)) (λ demands. done (duration.number, demands)) duration.rest r duration.after in
    let row = row_found resources (amount_place last id) b.first b.value b.to_value in
    let f = finished (duration.number, b.value) r b.second b.after in
    let rest : duration.rest ≡ b.value = alone_is duration.rest b.first b.second b.value b.parts f.0 row.same in
    let from_duration : mode.rest ≡ duration.number ∷ b.value =
    next_is mode.rest duration.rest b.value duration.number duration.number duration.parts refl rest in
    let same : zs ≡ pos id ∷ pos 1 ∷ duration.number ∷ b.value =
    next_is zs found.rest _ found.number (pos id) found.parts (exactly id found.number found.fit)
    (next_is found.rest mode.rest _ mode.number (pos 1) mode.parts (exactly 1 mode.number mode.fit) from_duration)
    in
    subst (λ (v : ℤ × List ℤ). IsRequest last resources id zs v) f.1 (record { same = same; count = row.len; duration = duration.fit; demands = row.fit })

-- .. of each row, from this one on
abbrev pub AreRequests : ℕ → ℕ → ℕ → List ℤ → List (List ℤ) → Type 0
AreRequests last resources id [] [] = Unit {0}
AreRequests last resources id [] (row ∷ demands) = ⊥
AreRequests last resources id (d ∷ durations) [] = ⊥
AreRequests last resources id (d ∷ durations) (row ∷ demands) =
    (length row ≡ resources) × (fits (amount_place last id) d ≡ true)
    × AllByRecursion (λ z. fits (amount_place last id) z ≡ true) row
    × AreRequests last resources (id + 1) durations demands

pub record RequestsFound (rows last resources id : ℕ) (zs : List ℤ) (r : Requests) : Type 0 where
  pub same : zs ≡ request_numbers id r.durations r.demands
  pub count : length r.durations ≡ rows
  pub each : AreRequests last resources id r.durations r.demands

abbrev one : ℤ × List ℤ → Requests
one r = record { durations = r.0 ∷ []; demands = r.1 ∷ [] }

pub request_rows_found : (rows last resources id : ℕ) (zs : List ℤ) (r : Requests)
    → Reaches (request_rows rows last resources id) zs (done r) → RequestsFound rows last resources id zs r
unfolding request_rows
request_rows_found zero last resources id zs r h =
    let f = finished no_requests r zs h in
    subst (λ (v : Requests). RequestsFound 0 last resources id zs v) f.1 (record { same = f.0; count = refl; each = tt })
request_rows_found (suc rows) last resources id zs r h =
    let a = through (request_row last resources id) (λ v. request_rows rows last resources (id + 1) >>= λ others. done (both (one v) others)) zs r h in
    let b = through (request_rows rows last resources (id + 1)) (λ others. done (both (one a.value) others)) a.second r a.after in
    let here = request_row_found last resources id a.first a.value a.to_value in
    let ih = request_rows_found rows last resources (id + 1) b.first b.value b.to_value in
    let f = finished (both (one a.value) b.value) r b.second b.after in
    let after : a.second ≡ request_numbers (id + 1) b.value.durations b.value.demands = alone_is a.second b.first b.second _ b.parts f.0 ih.same in
    let same : zs ≡ (pos id ∷ pos 1 ∷ a.value.0 ∷ a.value.1) ++ request_numbers (id + 1) b.value.durations
    b.value.demands = joined_is zs a.first a.second _ _ a.parts here.same after in
    subst (λ (v : Requests). RequestsFound (suc rows) last resources id zs v) f.1
    (record { same = same; count = ap suc ih.count; each = (here.count, here.duration, here.demands, ih.each) })

-- ---- The numbers of the request rows lead the layout to their end.

pub request_row_again : (last resources id : ℕ) (d : ℤ) (row : List ℤ) → length row ≡ resources
    → fits (amount_place last id) d ≡ true → AllByRecursion (λ z. fits (amount_place last id) z ≡ true) row
    → Reaches (request_row last resources id) (pos id ∷ pos 1 ∷ d ∷ row) (done (d, row))
unfolding request_row
request_row_again last resources id d row len fit all =
    let there : Reaches (row_of resources (amount_place last id)) row (done row) =
    subst (λ (n : ℕ). Reaches (row_of n (amount_place last id)) row (done row)) len
    (row_again (amount_place last id) row all) in (
      is_between_from (pos id) (pos id) (pos id) (omega (arith, ints)) (omega (arith, ints)),
      (
        is_between_from (pos 1) (pos 1) (pos 1) (omega (arith, ints)) (omega (arith, ints)),
        (fit, Reaches-made (row_of resources (amount_place last id)) (λ demands. (d, demands)) row row there),
      ),
    )

abbrev requests : List ℤ → List (List ℤ) → Requests
requests durations demands = record { durations = durations; demands = demands }

abbrev pair_of : ℤ → List ℤ → ℤ × List ℤ
pair_of d row = (d, row)

pub request_rows_again : (last resources id : ℕ) (durations : List ℤ) (demands : List (List ℤ)) → AreRequests last resources id durations demands
    → Reaches (request_rows (length durations) last resources id) (request_numbers id durations demands) (done (requests durations demands))
unfolding request_rows
request_rows_again last resources id [] [] h = refl
request_rows_again last resources id (d ∷ durations) (row ∷ demands) h =
    Reaches-bind (request_row last resources id)
    (λ v. request_rows (length durations) last resources (id + 1) >>= λ others. done (both (one v) others))
    (done (requests (d ∷ durations) (row ∷ demands)))
    (pair_of d row) (pos id ∷ pos 1 ∷ d ∷ row) (request_numbers (id + 1) durations demands) (request_row_again last resources id d row h.0 h.1 h.2)
    (Reaches-made (request_rows (length durations) last resources (id + 1))
    (λ others. both (one (pair_of d row)) others) (requests durations demands)
    (request_numbers (id + 1) durations demands) (request_rows_again last resources (id + 1) durations demands h.3))
request_rows_again last resources id durations demands h = absurd h

-- ---- The durations and demands of a project are those that the request rows take: nothing at a dummy, an amount elsewhere.

pub amount_from : (z : ℤ) → fits places.Amount z ≡ true → IsAmount z
amount_from z h = within (pos 0) MAX_AMOUNT z h

pub amount_fits : (z : ℤ) → IsAmount z → fits places.Amount z ≡ true
amount_fits z a = is_between_from (pos 0) MAX_AMOUNT z a.at_least a.at_most

-- the duration and the demands of an activity fit their place
pub record IsRequestAt (last resources i : ℕ) (d : ℤ) (row : List ℤ) : Type 0 where
  pub count : length row ≡ resources
  pub duration : fits (amount_place last i) d ≡ true
  pub demands : AllByRecursion (λ z. fits (amount_place last i) z ≡ true) row

pub requests_from : (last resources id : ℕ) (durations : List ℤ) (demands : List (List ℤ)) → length durations ≡ length demands
    → ((i : ℕ) → i < length durations → IsRequestAt last resources (id + i) (get_or durations i (pos 0))
    (get_or demands i [])) → AreRequests last resources id durations demands
requests_from last resources id [] [] e each = tt
requests_from last resources id (d ∷ durations) (row ∷ demands) e each =
    let here : IsRequestAt last resources id d row = subst (λ (k : ℕ). IsRequestAt last resources k d row) (add-zero id) (each 0 (omega arith)) in (
      here.count,
      here.duration,
      here.demands,
      requests_from last resources (id + 1) durations demands (omega (arith, e)) (λ i lt.
          let next : id + suc i ≡ (id + 1) + i = omega arith in
          subst (λ (k : ℕ). IsRequestAt last resources k (get_or durations i (pos 0)) (get_or demands i [])) next (each (suc i) (omega arith))),
    )
requests_from last resources id durations demands e each = absurd (omega (arith, e))

pub requests_count : (last resources id : ℕ) (durations : List ℤ) (demands : List (List ℤ))
    → AreRequests last resources id durations demands → length demands ≡ length durations
requests_count last resources id [] [] h = refl
requests_count last resources id (d ∷ durations) (row ∷ demands) h = ap suc (requests_count last resources (id + 1) durations demands h.3)
requests_count last resources id durations demands h = absurd h

pub request_at : (last resources id : ℕ) (durations : List ℤ) (demands : List (List ℤ))
    → AreRequests last resources id durations demands → (i : ℕ) → i < length durations
    → IsRequestAt last resources (id + i) (get_or durations i (pos 0)) (get_or demands i [])
request_at last resources id [] demands h i lt = absurd (omega arith)
request_at last resources id (d ∷ durations) [] h i lt = absurd h
request_at last resources id (d ∷ durations) (row ∷ demands) h zero lt =
    let here : IsRequestAt last resources id d row = record { count = h.0; duration = h.1; demands = h.2 } in
    subst (λ (k : ℕ). IsRequestAt last resources k d row) (let e : id ≡ id + 0 = omega arith in e) here
request_at last resources id (d ∷ durations) (row ∷ demands) h (suc i) lt =
    let next : (id + 1) + i ≡ id + suc i = omega arith in
    subst (λ (k : ℕ). IsRequestAt last resources k (get_or durations i (pos 0)) (get_or demands i [])) next
    (request_at last resources (id + 1) durations demands h.3 i (omega arith))

-- what fits either place is an amount
amount_at : (row : ℕ) (b : Bool) (z : ℤ) → fits (cond b (places.Nothing row) places.Amount) z ≡ true → IsAmount z
amount_at row true z h =
    let e = exactly 0 z h in
    record { at_least = omega (arith, ints, e); at_most = omega (arith, ints, e) }
amount_at row false z h = amount_from z h

pub amount_there : (last i : ℕ) (z : ℤ) → fits (amount_place last i) z ≡ true → IsAmount z
amount_there last i z h = amount_at (last + 1 + i) (eqb i 0 || eqb i last) z h

nothing_at : (row : ℕ) (b : Bool) (z : ℤ) → b ≡ true → fits (cond b (places.Nothing row) places.Amount) z ≡ true → z ≡ pos 0
nothing_at row true z e h = exactly 0 z h
nothing_at row false z e h = absurd cc

-- a dummy is the first activity or the last
pub is_first : (last i : ℕ) → i ≡ 0 → (eqb i 0 || eqb i last) ≡ true
is_first last i e = or_left (eqb i 0) (eqb i last) (eq-eqb i 0 e)

pub is_last : (last i : ℕ) → i ≡ last → (eqb i 0 || eqb i last) ≡ true
is_last last i e = or_right (eqb i 0) (eqb i last) (eq-eqb i last e)

pub nothing_there : (last i : ℕ) (z : ℤ) → (eqb i 0 || eqb i last) ≡ true → fits (amount_place last i) z ≡ true → z ≡ pos 0
nothing_there last i z e h = nothing_at (last + 1 + i) (eqb i 0 || eqb i last) z e h

fits_at : (row : ℕ) (b : Bool) (z : ℤ) → (b ≡ true → z ≡ pos 0) → IsAmount z → fits (cond b (places.Nothing row) places.Amount) z ≡ true
fits_at row true z nothing amount = let e = nothing refl in is_between_from (pos 0) (pos 0) z (omega (arith, ints, e)) (omega (arith, ints, e))
fits_at row false z nothing amount = amount_fits z amount

pub fits_there : (last i : ℕ) (z : ℤ) → ((eqb i 0 || eqb i last) ≡ true → z ≡ pos 0) → IsAmount z → fits (amount_place last i) z ≡ true
fits_there last i z nothing amount = fits_at (last + 1 + i) (eqb i 0 || eqb i last) z nothing amount
