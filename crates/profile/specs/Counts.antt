-- What has been counted along an order of the activities, up to a time.
use Rattle.std.specs.Prelude.{◌≡◌, ℕ, ◌+◌, ◌-◌, ◌<◌, ◌≤◌, ℤ, pos, ◌+ℤ◌, ◌≤ℤ◌, ◌<ℤ◌, List, length, take, slice_index, slice_index_or}
use Rattle.std.specs.List.{sum_by}
use Rattle.network.specs.Problem.{Problem, activity_count, resource_count, duration, demand, capacity, IsProject, AreStarts}
use Rattle.network.specs.Schedule.{start}
use Rattle.profile.specs.Orders.{IsOrder, Rises, key_at}
pub use Rattle.profile.specs.declared.counting.Count.{Count}

-- when an activity ends
abbrev pub end_time : Problem → List ℤ → ℕ → ℤ
end_time p s i = start s i +ℤ duration p i

-- the list has the end of each activity
pub record AreEnds (p : Problem) (s ends : List ℤ) : Type 0 where
  pub limits : IsProject p
  pub count : length ends ≡ activity_count p
  pub each : (i : ℕ) → i < activity_count p → slice_index_or ends i (pos 0) ≡ end_time p s i

-- the count has an order of n activities, a time of each, and a total for each of m resources
pub record IsSized (n m : ℕ) (c : Count) : Type 0 where
  pub is_order : IsOrder n c.order.items
  pub each : length c.times.items ≡ n
  pub columns : length c.totals.items ≡ m

-- it has those of the project
abbrev pub HasRoomFor : Problem → Count → Type 0
HasRoomFor p c = IsSized (activity_count p) (resource_count p) c

-- the activity at a place of its order has this time
abbrev pub time_at : Count → ℕ → ℤ
time_at c place = key_at c.times.items c.order.items place

-- the times rise along the order, and the totals are the joint demands of the activities that are counted
pub record IsCount (p : Problem) (c : Count) : Type 0 where
  pub limits : IsProject p
  pub sized : HasRoomFor p c
  pub rises : Rises c.times.items c.order.items
  pub inside : c.passed ≤ length c.order.items
  pub sums : (k : ℕ) → k < resource_count p →
      slice_index c.totals.items k ≡ sum_by (demand p k) (take c.passed c.order.items)

-- the totals with the demands of an activity added
abbrev pub AddsDemands : Problem → ℕ → List ℕ → List ℕ → Type 0
AddsDemands p activity old new =
    (k : ℕ) → k < resource_count p → slice_index new k ≡ slice_index old k + demand p k activity

-- all activities are counted
abbrev pub IsWhole : Count → Type 0
IsWhole c = length c.order.items ≤ c.passed

-- t is the time of the first activity that isn't counted
pub record IsNextTime (c : Count) (t : ℤ) : Type 0 where
  pub some : c.passed < length c.order.items
  pub is : t ≡ time_at c c.passed

-- each activity that is counted has a time of at most t
abbrev pub HasPassed : Count → ℤ → Type 0
HasPassed c t = (i : ℕ) → i < c.passed → time_at c i ≤ℤ t

-- the activities that are counted are those whose time is at most t
pub record HasCome (c : Count) (t : ℤ) : Type 0 where
  pub past : HasPassed c t
  pub future : c.passed < length c.order.items → t <ℤ time_at c c.passed

-- the times and the order are the same
pub record IsSameOrder (old new : Count) : Type 0 where
  pub times : new.times ≡ old.times
  pub order : new.order ≡ old.order

-- nothing has been counted yet of these starts and their ends
pub record AreReady (p : Problem) (started ended : Count) : Type 0 where
  pub within : AreStarts p started.times.items
  pub are_ends : AreEnds p started.times.items ended.times.items
  pub starts : IsCount p started
  pub none_started : started.passed ≡ 0
  pub ends : IsCount p ended
  pub none_ended : ended.passed ≡ 0

-- how much of resource k has started and not ended
abbrev pub counted_use : List ℕ → List ℕ → ℕ → ℕ
counted_use started ended k = slice_index started k - slice_index ended k

-- no more of a resource has ended than has started
abbrev pub EndsLess : Problem → List ℕ → List ℕ → Type 0
EndsLess p started ended = (k : ℕ) → k < resource_count p → slice_index ended k ≤ slice_index started k

-- no more of a resource is counted than there is
abbrev pub CountsWithin : Problem → List ℕ → List ℕ → Type 0
CountsWithin p started ended = (k : ℕ) → k < resource_count p → counted_use started ended k ≤ capacity p k

-- k is the least resource of which more is counted than there is
pub record IsLeastOver (p : Problem) (started ended : List ℕ) (k : ℕ) : Type 0 where
  pub in_range : k < resource_count p
  pub over : capacity p k < counted_use started ended k
  pub below : (j : ℕ) → j < k → counted_use started ended j ≤ capacity p j
