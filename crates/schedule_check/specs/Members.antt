-- Members of a set of activities.
use Rattle.std.specs.Prelude.{ℕ, ◌<◌, pos, ◌<ℤ◌, List}
use Rattle.std.specs.List.{All}
use Rattle.std.specs.List.Sorted.{IsStrictlyIncreasing}
use Rattle.network.specs.Problem.{Problem, activity_count, duration}

-- an activity that takes time
pub record TakesTime (p : Problem) (i : ℕ) : Type 0 where
  pub named : i < activity_count p
  pub long : pos 0 <ℤ duration p i

-- rising activities that take time
pub record AreMembers (p : Problem) (members : List ℕ) : Type 0 where
  pub rising : IsStrictlyIncreasing members
  pub take_time : All (TakesTime p) members
