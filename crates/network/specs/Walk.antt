-- Walks over a list of arcs, and the matrix of their greatest weights, which exists where no closed
-- walk is positive (Bartusch, Möhring and Radermacher 1988).
use Rattle.std.specs.Prelude.{◌≡◌, ℕ, ◌<◌, ◌≤◌, ℤ, pos, ◌+ℤ◌, ◌≤ℤ◌, ◌<ℤ◌, List, [], ◌∷◌, length, Option, None, MatchOption, slice_index_or, map}
use Rattle.std.specs.List.{All, Contains, range_with_len}
use Rattle.std.specs.Option.{unwrap_or}
use Rattle.network.specs.Problem.{IsWithin, Problem, activity_count, arcs_of, NameActivities, IsProject, Lag, MAX_LAG_WEIGHT, Pair}

-- a list of arcs, end to end, that leads from a to b
abbrev pub IsWalk : List Lag → ℕ → List Lag → ℕ → Type 0
IsWalk arcs a [] b = a ≡ b
IsWalk arcs a (e ∷ es) b = Contains arcs e × (e.from ≡ a) × IsWalk arcs e.to es b

-- the sum of the weights
abbrev pub weight : List Lag → ℤ
weight [] = pos 0
weight (e ∷ es) = e.weight +ℤ weight es

-- every arc lies among the activities 0 to m
abbrev pub IsUpTo : ℕ → List Lag → Type 0
IsUpTo m es = All (λ e. (e.from ≤ m) × (e.to ≤ m)) es

-- a closed walk of positive weight
pub record IsPositiveCycle (arcs : List Lag) (a : ℕ) (es : List Lag) : Type 0 where
  pub closed : IsWalk arcs a es a
  pub positive : pos 0 <ℤ weight es

abbrev pub HasPositiveCycle : List Lag → Type 0
HasPositiveCycle arcs = (a : ℕ) × (es : List Lag) × IsPositiveCycle arcs a es

abbrev pub HasNoPositiveCycle : List Lag → Type 0
HasNoPositiveCycle arcs = (a : ℕ) (es : List Lag) → IsWalk arcs a es a → weight es ≤ℤ pos 0

-- m is the least activity such that a closed walk of positive weight visits only 0 to m
pub record IsLeastCycleTop (arcs : List Lag) (m : ℕ) : Type 0 where
  pub reached : (a : ℕ) × (es : List Lag) × IsPositiveCycle arcs a es × IsUpTo m es
  pub least : (k a : ℕ) (es : List Lag) → k < m → IsUpTo k es → IsWalk arcs a es a → weight es ≤ℤ pos 0

-- the greatest weight of a walk from a to b, none where there is none
abbrev pub IsGreatestWeight : List Lag → ℕ → ℕ → Option ℤ → Type 0
IsGreatestWeight arcs a b w =
    MatchOption w
    ((es : List Lag) → ¬ IsWalk arcs a es b)
    (λ g. ((es : List Lag) × IsWalk arcs a es b × (weight es ≡ g))
    × ((es : List Lag) → IsWalk arcs a es b → weight es ≤ℤ g))

-- the rows of a matrix: a weight for each two vertices, none where there is no walk
abbrev pub Rows : Type 0
Rows = List (List (Option ℤ))

-- the entry (a, b) of the rows
abbrev pub entry : Rows → ℕ → ℕ → Option ℤ
entry rows a b = slice_index_or (slice_index_or rows a []) b None

-- each arc joins two of n activities
abbrev pub AreInside : ℕ → List Lag → Type 0
AreInside n arcs = (e : Lag) → Contains arcs e → (e.from < n) × (e.to < n)

-- the matrix of a list of arcs between n activities
pub record IsMatrixOf (n : ℕ) (arcs : List Lag) (rows : Rows) : Type 0 where
  pub inside : AreInside n arcs
  pub square : (length rows ≡ n) × All (λ row. length row ≡ n) rows
  pub no_cycle : HasNoPositiveCycle arcs
  pub greatest : (a b : ℕ) → a < n → b < n → IsGreatestWeight arcs a b (entry rows a b)

-- the arcs have no matrix but one
abbrev pub HaveOneMatrix : ℕ → List Lag → Type 0
HaveOneMatrix n arcs = (rows others : Rows) → IsMatrixOf n arcs rows → IsMatrixOf n arcs others → rows ≡ others

-- each arc's weight is within the limits for lags
abbrev pub AreLight : List Lag → Type 0
AreLight arcs = (e : Lag) → Contains arcs e → IsWithin MAX_LAG_WEIGHT e.weight

-- the greatest weights from a vertex, and 0 where there is no walk
abbrev pub weights_from : ℕ → Rows → List ℤ
weights_from a rows = map (λ b. unwrap_or (entry rows a b) (pos 0)) (range_with_len 0 (length rows))

-- ---- The matrix of a project and pairs.

-- the rows are the matrix of the project's rules and an arc for each pair
pub record IsProjectMatrix (p : Problem) (pairs : List Pair) (rows : Rows) : Type 0 where
  pub limits : IsProject p
  pub named : NameActivities p pairs
  pub matrix : IsMatrixOf (activity_count p) (arcs_of p pairs) rows
