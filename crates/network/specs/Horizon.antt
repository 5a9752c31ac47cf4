-- The horizon of a project, by which some feasible schedule ends if there is one.
use Rattle.std.specs.Prelude.{ℕ, ℤ, pos, ◌==◌, ◌≤ℤ◌, List, map, unsigned_abs}
use Rattle.std.specs.Int.{int_max}
use Rattle.std.specs.List.{filter, fold, sum_by}
use Rattle.network.specs.Problem.{Problem, IsProject, activities, duration}
use Rattle.network.specs.Schedule.{IsFeasible, makespan}

-- the lags of the given arcs that leave an activity
abbrev pub lags_from : Problem → ℕ → List ℤ
lags_from p i = map (λ e. e.weight) (filter (λ e. e.from == i) p.lags)

-- the stretch of an activity: the greatest of its duration and these lags
abbrev pub stretch : Problem → ℕ → ℕ
stretch p i = unsigned_abs (fold int_max (duration p i) (lags_from p i))

-- the horizon: the sum of the stretches of all activities
abbrev pub horizon : Problem → ℕ
horizon p = sum_by (stretch p) (activities p)

-- a feasible schedule that ends by the horizon
pub record EndsByHorizon (p : Problem) (s : List ℤ) : Type 0 where
  pub feasible : IsFeasible p s
  pub in_time : makespan s ≤ℤ pos (horizon p)

-- a project that has a feasible schedule has one that ends by the horizon
abbrev pub HorizonSuffices : Type 0
HorizonSuffices = (p : Problem) (s : List ℤ) → IsProject p → IsFeasible p s → (t : List ℤ) × EndsByHorizon p t
