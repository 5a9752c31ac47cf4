-- The project as the field knows it: activities with durations and demands, resources with
-- capacities, and arcs from start to start (Bartusch, Möhring and Radermacher 1988; the notation
-- of Brucker, Drexl, Möhring, Neumann and Pesch 1999).
use Rattle.std.specs.Prelude.{ℕ, ◌-◌, ◌<◌, ℤ, pos, unsigned_abs, List, [], ◌++◌, map, length, slice_index_or, ◌≡◌, ◌≤◌, neg_ℤ, ◌≤ℤ◌}
use Rattle.std.specs.List.{range_with_len, All, AllPairs}
pub use Rattle.network.specs.declared.parts.Lag.{Lag}
pub use Rattle.network.specs.declared.parts.Pair.{Pair}
use Rattle.network.specs.declared.parts.Parts.{Parts}
pub use Rattle.network.specs.declared.limits.TheConstants.{MAX_ACTIVITIES, MAX_AMOUNT, MAX_LAG_WEIGHT, MAX_LAGS, MAX_RESOURCES, MAX_START}

-- a project: a duration and a row of demands for each activity, a capacity for each resource, and
-- the given arcs
pub record Problem : Type 0 where
  pub durations : List ℤ
  pub demands : List (List ℤ)
  pub capacities : List ℤ
  pub lags : List Lag

-- how many activities there are, the start and the end among them
abbrev pub activity_count : Problem → ℕ
activity_count p = length p.durations

-- the activities, from the start to the end
abbrev pub activities : Problem → List ℕ
activities p = range_with_len 0 (activity_count p)

-- the end, which is the last activity
abbrev pub end_of : Problem → ℕ
end_of p = activity_count p - 1

abbrev pub resource_count : Problem → ℕ
resource_count p = length p.capacities

abbrev pub duration : Problem → ℕ → ℤ
duration p i = slice_index_or p.durations i (pos 0)

-- how many units of resource k activity i uses while it runs
abbrev pub demand : Problem → ℕ → ℕ → ℕ
demand p k i = unsigned_abs (slice_index_or (slice_index_or p.demands i []) k (pos 0))

abbrev pub capacity : Problem → ℕ → ℕ
capacity p k = unsigned_abs (slice_index_or p.capacities k (pos 0))

-- no activity starts before the start
abbrev pub start_arc : ℕ → Lag
start_arc i = record { from = 0; to = i; weight = pos 0 }

-- activity i ends before j starts
abbrev pub lasting : List ℤ → ℕ → ℕ → Lag
lasting durations i j = record { from = i; to = j; weight = slice_index_or durations i (pos 0) }

-- no activity ends after the end
abbrev pub end_arc : Problem → ℕ → Lag
end_arc p i = lasting p.durations i (end_of p)

-- the arcs that hold in every project
abbrev pub implied_arcs : Problem → List Lag
implied_arcs p =
    map start_arc (range_with_len 1 (end_of p)) ++ map (end_arc p) (range_with_len 0 (end_of p))

-- the rules: the given arcs in their order, then the implied ones
abbrev pub rules : Problem → List Lag
rules p = p.lags ++ implied_arcs p

-- one activity ends before another starts
abbrev pub pair_arc : Problem → Pair → Lag
pair_arc p q = lasting p.durations q.before q.after

-- the arcs of a project and a list of pairs
abbrev pub arcs_of : Problem → List Pair → List Lag
arcs_of p pairs = rules p ++ map (pair_arc p) pairs

-- both activities of each pair are there
abbrev pub NameActivities : Problem → List Pair → Type 0
NameActivities p pairs = All (λ q. (q.before < activity_count p) × (q.after < activity_count p)) pairs

-- ---- The lists that parts are made of.

abbrev pub problem_of : Parts → Problem
problem_of parts = record {
  durations = parts.durations.items;
  demands = map (λ row. row.items) parts.demands.items;
  capacities = parts.capacities.items;
  lags = parts.lags.items;
}

-- ---- The ordered pair of two activities.

abbrev pub pair_of : ℕ → ℕ → Pair
pair_of i j = record { before = i; after = j }

-- ---- The limits within which lists are those of a project, and a start is one.

-- a whole number within bounds
pub record IsBetween (low high z : ℤ) : Type 0 where
  pub at_least : low ≤ℤ z
  pub at_most : z ≤ℤ high

-- a whole number that is at most m away from 0
abbrev pub IsWithin : ℤ → ℤ → Type 0
IsWithin m z = IsBetween (neg_ℤ m) m z

-- an amount of time, of demand or of capacity within the limits
abbrev pub IsAmount : ℤ → Type 0
IsAmount z = IsBetween (pos 0) MAX_AMOUNT z

-- a time within the limits of starts
abbrev pub IsTime : ℤ → Type 0
IsTime z = IsWithin MAX_START z

-- a start within the limits for each activity
pub record AreStarts (p : Problem) (s : List ℤ) : Type 0 where
  pub count : length s ≡ activity_count p
  pub within : All IsTime s

-- a given arc joins two of n activities, and its weight is within the limits
pub record IsLag (n : ℕ) (e : Lag) : Type 0 where
  pub from_activity : e.from < n
  pub to_activity : e.to < n
  pub light : IsWithin MAX_LAG_WEIGHT e.weight

-- the activity takes no time and asks for nothing
pub record IsDummy (p : Problem) (i : ℕ) : Type 0 where
  pub no_time : duration p i ≡ pos 0
  pub no_demand : All (λ r. r ≡ pos 0) (slice_index_or p.demands i [])

-- the lists are those of a project within the limits
pub record IsProject (p : Problem) : Type 0 where
  pub two_dummies : 2 ≤ activity_count p
  pub activity_limit : activity_count p ≤ MAX_ACTIVITIES
  pub resource_limit : resource_count p ≤ MAX_RESOURCES
  pub lag_limit : length p.lags ≤ MAX_LAGS
  pub demand_rows : length p.demands ≡ activity_count p
  pub demand_columns : All (λ row. length row ≡ resource_count p) p.demands
  pub start_is_dummy : IsDummy p 0
  pub end_is_dummy : IsDummy p (end_of p)
  pub durations_fit : All IsAmount p.durations
  pub demands_fit : All (λ row. All IsAmount row) p.demands
  pub capacities_fit : All IsAmount p.capacities
  pub lags_fit : All (IsLag (activity_count p)) p.lags
  pub lags_rise : AllPairs (λ e f. e.from ≤ f.from) p.lags
