-- Which parts are those of a project, and the first fault of those that aren't.
use Rattle.std.specs.Prelude.{ℕ, ◌+◌, ℤ, pos, neg_ℤ, int_le, Bool, true, false, ◌&&◌, nat_le, nat_lt, nat_eq, List, []}
use Rattle.std.specs.Prelude.{◌∷◌, length, slice_index_or, Option, None, Some}
use Rattle.std.specs.List.{list_all}
use Rattle.network.specs.declared.parts.ProjectFault.{ProjectFault}
use Rattle.network.specs.declared.parts.ProjectFault.TheVariants.{Limit, Activity, Dummy, Shape}
use Rattle.network.specs.declared.parts.Quantity.TheVariants as quantity
use Rattle.network.specs.Problem.{Problem, activity_count, end_of, resource_count, duration, Lag, MAX_ACTIVITIES}
use Rattle.network.specs.Problem.{MAX_AMOUNT, MAX_LAG_WEIGHT, MAX_LAGS, MAX_RESOURCES}

-- the first of two faults
abbrev pub or_else : Option ProjectFault → Option ProjectFault → Option ProjectFault
or_else None y = y
or_else (Some x) y = Some x

-- the fault, unless the test holds
abbrev pub unless : Bool → ProjectFault → Option ProjectFault
unless true f = None
unless false f = Some f

abbrev pub is_amount : ℤ → Bool
is_amount z = int_le (pos 0) z && int_le z MAX_AMOUNT

abbrev pub is_weight : ℤ → Bool
is_weight z = int_le (neg_ℤ MAX_LAG_WEIGHT) z && int_le z MAX_LAG_WEIGHT

abbrev pub is_zero : ℤ → Bool
is_zero z = int_le (pos 0) z && int_le z (pos 0)

-- two durations or more, a row of demands for each, and a demand for each resource
abbrev pub shape_fault : Problem → Option ProjectFault
shape_fault p =
    unless
    (nat_le 2 (activity_count p) && nat_eq (length p.demands) (activity_count p)
    && list_all (λ row. nat_eq (length row) (resource_count p)) p.demands)
    Shape

abbrev pub count_fault : Problem → Option ProjectFault
count_fault p =
    or_else (unless (nat_le (activity_count p) MAX_ACTIVITIES) (Limit quantity.Activities))
    (or_else (unless (nat_le (resource_count p) MAX_RESOURCES) (Limit quantity.Resources))
    (unless (nat_le (length p.lags) MAX_LAGS) (Limit quantity.Lags)))

abbrev pub dummy_fault : Problem → ℕ → Option ProjectFault
dummy_fault p i = unless (is_zero (duration p i) && list_all is_zero (slice_index_or p.demands i [])) (Dummy i)

abbrev pub amount_fault : Problem → Option ProjectFault
amount_fault p =
    or_else (unless (list_all is_amount p.durations) (Limit quantity.Duration))
    (or_else (unless (list_all (λ row. list_all is_amount row) p.demands) (Limit quantity.Demand))
    (unless (list_all is_amount p.capacities) (Limit quantity.Capacity)))

-- the given arc at a place, among n activity_count, after one that leads from last
abbrev pub arc_fault : ℕ → ℕ → ℕ → Lag → Option ProjectFault
arc_fault n place last e =
    or_else (unless (nat_lt e.from n) (Activity place e.from))
    (or_else (unless (nat_lt e.to n) (Activity place e.to))
    (or_else (unless (is_weight e.weight) (Limit quantity.Lag)) (unless (nat_le last e.from) Shape)))

abbrev pub lag_fault : ℕ → ℕ → ℕ → List Lag → Option ProjectFault
lag_fault n place last [] = None
lag_fault n place last (e ∷ es) = or_else (arc_fault n place last e) (lag_fault n (place + 1) e.from es)

-- the first fault, in the order of the tests
abbrev pub first_fault : Problem → Option ProjectFault
first_fault p =
    or_else (shape_fault p)
    (or_else (count_fault p)
    (or_else (dummy_fault p 0)
    (or_else (dummy_fault p (end_of p))
    (or_else (amount_fault p) (lag_fault (activity_count p) 0 0 p.lags)))))
