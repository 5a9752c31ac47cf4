-- Pairs that are forced, one after the other, by the matrix of a node and a pair.
use Rattle.std.specs.Prelude.{◌≡◌, ℤ, neg_ℤ, ◌<ℤ◌, Option, Some, MatchOption, List, [], ◌∷◌, ◌++◌}
use Rattle.std.specs.List.{All}
use Rattle.network.specs.declared.parts.Pair.{Pair}
use Rattle.network.specs.Problem.{Problem, duration, pair_arc}
use Rattle.network.specs.Walk.{IsProjectMatrix, Rows, entry}
use Rattle.longest_path.specs.Matrix.{greater, joined}
use Rattle.longest_path.specs.Insert.{weight_over}
use Rattle.branching.specs.Subproblem.{Subproblem}
use Rattle.branching.specs.Right.{AllForced}
use Rattle.branching.specs.Fates.{IsInfeasibleBy}
use Rattle.branching.specs.declared.forcing.Forcing.{Forcing}
use Rattle.branching.specs.declared.forcing.Forcing.TheVariants.{Live, Infeasible}

-- by this greatest weight from the pair's first activity to its second, the second can't end before the
-- first starts, and doesn't wait yet until the first has ended
pub record IsForcedAt (p : Problem) (pair : Pair) (greatest : Option ℤ) : Type 0 where
  pub weight : ℤ
  pub is : greatest ≡ Some weight
  pub above : neg_ℤ (duration p pair.after) <ℤ weight
  pub below : weight <ℤ duration p pair.before

-- by its entry of the matrix
abbrev pub IsForcedIn : Problem → Rows → Pair → Type 0
IsForcedIn p rows pair = IsForcedAt p pair (entry rows pair.before pair.after)

-- the weight of the way over the arc of one pair more, where there is one
abbrev pub way_over : Problem → Rows → Pair → Pair → Option ℤ
way_over p rows added pair =
    joined (weight_over (pair_arc p added) rows pair.before) (entry rows added.after pair.after)

-- there is a way over the arc of one pair more, and once that is added the pair is forced
pub record IsForcedWith (p : Problem) (rows : Rows) (added pair : Pair) : Type 0 where
  pub way : ℤ
  pub is_way : way_over p rows added pair ≡ Some way
  pub forced : IsForcedAt p pair (greater (entry rows pair.before pair.after) (Some way))

-- the first of the pairs that is forced in the matrix
pub record IsFirstForced (p : Problem) (rows : Rows) (pairs : List Pair) (pair : Pair) : Type 0 where
  pub before : List Pair
  pub after : List Pair
  pub split : pairs ≡ before ++ pair ∷ after
  pub forced : IsForcedIn p rows pair
  pub none_before : All (λ other. ¬ IsForcedIn p rows other) before

-- the first of the pairs that is forced in the matrix, or none where none is
abbrev pub IsNextForced : Problem → Rows → List Pair → Option Pair → Type 0
IsNextForced p rows pairs next =
    MatchOption next (All (λ pair. ¬ IsForcedIn p rows pair) pairs) (IsFirstForced p rows pairs)

-- forced pairs were added after these, and the rows are the matrix of them all
pub record IsForcedMatrix (p : Problem) (pairs forced : List Pair) (rows : Rows) : Type 0 where
  pub all_forced : AllForced p pairs forced
  pub matrix : IsProjectMatrix p (pairs ++ forced) rows

-- what forcing made of a node and a pair, and these are the rows where it lives
abbrev pub IsForcingOf : Subproblem → Pair → Rows → Forcing → Type 0
IsForcingOf node first rows (Live forced) = IsForcedMatrix node.project (node.pairs ++ first ∷ []) forced.items rows
IsForcingOf node first rows (Infeasible forced) = IsInfeasibleBy node first forced.items
