-- The places of a project text, what fits each, and the fault of each.
use Rattle.std.specs.Prelude.{ℕ, zero, suc, ◌+◌, ◌-◌, ◌==◌, Bool, ◌&&◌, ◌||◌, List, [], ◌∷◌, ◌++◌, length, map, Vec, ℤ}
use Rattle.std.specs.Prelude.{pos, neg_ℤ, nat_abs, int_le, if◌then◌else◌}
use Rattle.std.specs.declared.alloc.Global.{Global}
pub use Rattle.sch_reader.specs.declared.fault.SchFault.{SchFault}
use Rattle.sch_reader.specs.declared.fault.SchFault.TheVariants as faults
pub use Rattle.sch_reader.specs.declared.place.Place.{Place}
use Rattle.sch_reader.specs.declared.place.Place.TheVariants as places
use Rattle.network.specs.declared.parts.Lag.{Lag}
use Rattle.network.specs.declared.limits.TheConstants.{MAX_ACTIVITIES, MAX_AMOUNT, MAX_LAG_WEIGHT, MAX_LAGS, MAX_RESOURCES}
use Rattle.network.specs.Problem.{Problem}

abbrev pub is_between : ℤ → ℤ → ℤ → Bool
is_between low high z = int_le low z && int_le z high

-- the numbers that fit a place
abbrev pub fits : Place → ℤ → Bool
fits places.Activities z = is_between (pos 0) (pos (MAX_ACTIVITIES - 2)) z
fits places.Resources z = is_between (pos 0) (pos MAX_RESOURCES) z
fits places.OtherResources z = is_between (pos 0) (pos 0) z
fits (places.Id row id) z = is_between (pos id) (pos id) z
fits (places.Mode row) z = is_between (pos 1) (pos 1) z
fits (places.Count left) z = is_between (pos 0) (pos left) z
fits (places.Successor row last) z = is_between (pos 0) (pos last) z
fits places.Lag z = is_between (neg_ℤ MAX_LAG_WEIGHT) MAX_LAG_WEIGHT z
fits (places.Nothing row) z = is_between (pos 0) (pos 0) z
fits places.Amount z = is_between (pos 0) MAX_AMOUNT z

-- the fault of a number that does not fit, at this word
abbrev pub misfit : Place → ℕ → ℤ → SchFault
misfit places.OtherResources index z = faults.NotRenewable
misfit (places.Id row id) index z = faults.RowNumber row z
misfit (places.Mode row) index z = faults.Modes row
misfit (places.Successor row last) index z = faults.Activity row z
misfit (places.Nothing row) index z = faults.Dummy row
misfit other index z = faults.Range index

-- A layout: nothing more, or a place, and for each number there the layout after it.
pub data Layout (A : Type 0) : Type 0 where
  done : A → Layout A
  place : Place → (ℤ → Layout A) → Layout A

infixl 10 ◌>>=◌
abbrev pub ◌>>=◌ : {A B : Type 0} → Layout A → (A → Layout B) → Layout B
(done x) >>= f = f x
(place p next) >>= f = place p (λ z. next z >>= f)

abbrev pub at : Place → Layout ℤ
at p = place p (λ z. done z)

-- a place so many times
unfoldable pub row_of : ℕ → Place → Layout (List ℤ)
row_of zero p = done []
row_of (suc n) p = do
  z ← at p
  others ← row_of n p
  done (z ∷ others)

-- the lags of the arcs from an activity to these ends
unfoldable pub lags_to : ℕ → List ℤ → Layout (List Lag)
lags_to from [] = done []
lags_to from (to ∷ ends) = do
  weight ← at places.Lag
  others ← lags_to from ends
  done (record { from = from; to = nat_abs to; weight = weight } ∷ others)

-- a network row: its activity, one mode, how many arcs, their ends, their lags
unfoldable pub network_row : ℕ → ℕ → ℕ → Layout (List Lag)
network_row last left row = do
  id ← at (places.Id row row)
  mode ← at (places.Mode row)
  count ← at (places.Count left)
  ends ← row_of (nat_abs count) (places.Successor row last)
  lags_to row ends

-- so many network rows, from this row on
unfoldable pub network_rows : ℕ → ℕ → ℕ → ℕ → Layout (List Lag)
network_rows zero last left row = done []
network_rows (suc rows) last left row = do
  lags ← network_row last left row
  others ← network_rows rows last (left - length lags) (row + 1)
  done (lags ++ others)

-- the place of a duration or a demand: nothing at a dummy
abbrev pub amount_place : ℕ → ℕ → Place
amount_place last id = if id == 0 || id == last then places.Nothing (last + 1 + id) else places.Amount

-- a request row: its activity, mode 1, a duration, the demands
unfoldable pub request_row : ℕ → ℕ → ℕ → Layout (ℤ × List ℤ)
request_row last resources id = do
  found ← at (places.Id (last + 1 + id) id)
  mode ← at (places.Mode (last + 1 + id))
  duration ← at (amount_place last id)
  demands ← row_of resources (amount_place last id)
  done (duration, demands)

-- the durations and the rows of demands
pub record Requests : Type 0 where
  pub durations : List ℤ
  pub demands : List (List ℤ)

-- the lists that a reader fills with them
abbrev pub requests_of : Vec ℤ Global × Vec (Vec ℤ Global) Global → Requests
requests_of lists = record { durations = lists.0.items; demands = map (λ row. row.items) lists.1.items }

abbrev pub no_requests : Requests
no_requests = record { durations = []; demands = [] }

-- those of one, and then of the other
abbrev pub both : Requests → Requests → Requests
both a b = record { durations = a.durations ++ b.durations; demands = a.demands ++ b.demands }

unfoldable pub request_rows : ℕ → ℕ → ℕ → ℕ → Layout Requests
request_rows zero last resources id = done no_requests
request_rows (suc rows) last resources id = do
  first ← request_row last resources id
  others ← request_rows rows last resources (id + 1)
  done (both (record { durations = first.0 ∷ []; demands = first.1 ∷ [] }) others)

-- the header: the number of activities, of resources, and no resources of other kinds
unfoldable pub header : Layout (ℕ × ℕ)
header = do
  n ← at places.Activities
  k ← at places.Resources
  third ← at places.OtherResources
  fourth ← at places.OtherResources
  done (nat_abs n, nat_abs k)

-- the layout of a project text
unfoldable pub project_text : Layout Problem
project_text = do
  h ← header
  lags ← network_rows (h.0 + 2) (h.0 + 1) MAX_LAGS 0
  requests ← request_rows (h.0 + 2) (h.0 + 1) h.1 0
  capacities ← row_of h.1 places.Amount
  done (record {
    durations = requests.durations;
    demands = requests.demands;
    capacities = capacities;
    lags = lags;
  })
