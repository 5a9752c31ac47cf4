-- What a user relies on, in words that stand alone. Beside the library's lists and numbers it takes two records: a `Problem`
-- has `durations`, rows of `demands`, `capacities` and `lags`; a `Lag` has `from`, `to` and `weight`.
use Rattle.std.specs.Prelude.{◌≡◌, ℕ, ◌+◌, ◌-◌, ◌<◌, ◌≤◌, nat_le, zero, suc, ℤ, pos, neg_ℤ, ◌+ℤ◌, ◌≤ℤ◌, int_le, int_lt, unsigned_abs}
use Rattle.std.specs.Prelude.{Bool, true, false, ◌&&◌, ◌==◌, if◌then◌else◌, List, [], ◌∷◌, ◌++◌, length, drop, map, codes, slice_index_or, Option, Some, None, option_map, ◌⊎◌}
use Rattle.std.specs.List.{All, filter, list_all, list_any, range_with_len, slice_split, sum_by}
use Rattle.std.specs.Char.{is_ascii_digit}
use Rattle.std.specs.Fmt.{decimal, signed_decimal}
use Rattle.std.specs.Str.Parse.{digits_value, starts_with_minus}
use Rattle.network.specs.Problem.{Problem}
use Rattle.network.specs.declared.parts.Lag.{Lag}

-- ---- A project, and its feasible schedules.

-- activity 0 is the start, the last one the end
abbrev pub count : Problem → ℕ
count p = length p.durations

-- a member of a list, or 0
abbrev pub at : List ℤ → ℕ → ℤ
at zs i = slice_index_or zs i (pos 0)

abbrev pub arc : ℕ → ℕ → ℤ → Lag
arc i j w = record { from = i; to = j; weight = w }

-- the given lags; and no activity starts before the start, or ends after the end
abbrev pub arcs : Problem → List Lag
arcs p = p.lags
    ++ (map (λ i. arc 0 i (pos 0)) (range_with_len 1 (count p - 1))
    ++ map (λ i. arc i (count p - 1) (at p.durations i)) (range_with_len 0 (count p - 1)))

-- starts: one for each activity, the first at 0, which meet all arcs
pub record IsSchedule (p : Problem) (s : List ℤ) : Type 0 where
  pub whole : length s ≡ count p
  pub from_zero : at s 0 ≡ pos 0
  pub met : All (λ e. (at s e.from +ℤ e.weight) ≤ℤ at s e.to) (arcs p)

-- the activities that run in the period t
abbrev pub running : Problem → List ℤ → ℤ → List ℕ
running p s t = filter (λ i. int_le (at s i) t && int_lt t (at s i +ℤ at p.durations i)) (range_with_len 0 (count p))

-- how much of resource k they use: in a feasible schedule never more than there is
abbrev pub load : Problem → List ℤ → ℕ → ℤ → ℕ
load p s k t = sum_by (λ i. unsigned_abs (at (slice_index_or p.demands i []) k)) (running p s t)

pub record IsFeasible (p : Problem) (s : List ℤ) : Type 0 where
  pub schedule : IsSchedule p s
  pub within : (t : ℤ) (k : ℕ) → k < length p.capacities → load p s k t ≤ unsigned_abs (at p.capacities k)

-- the start of the end
abbrev pub makespan : List ℤ → ℤ
makespan s = at s (length s - 1)

-- no feasible schedule is shorter
abbrev pub IsBound : Problem → ℤ → Type 0
IsBound p c = (s : List ℤ) → IsFeasible p s → c ≤ℤ makespan s

-- ---- The text of a project: numbers, between which stand spaces, tabs, CR, LF and square brackets.

abbrev pub is_word : List ℕ → Bool
is_word [] = false
is_word (b ∷ bs) = true

abbrev pub words : List ℕ → List (List ℕ)
words text = filter is_word (slice_split (λ b. list_any (λ s. s == b) (32 ∷ 9 ∷ 13 ∷ 10 ∷ 91 ∷ 93 ∷ [])) text)

-- 1 to 9 digits, and perhaps a minus before them
abbrev pub digits : List ℕ → Option ℕ
digits w = if list_all is_ascii_digit w && nat_le 1 (length w) && nat_le (length w) 9 then Some (digits_value 10 w) else None

abbrev pub number : List ℕ → Option ℤ
number w = if starts_with_minus w then option_map (λ n. neg_ℤ (pos n)) (digits (drop 1 w)) else option_map pos (digits w)

-- a row for each activity: itself, 1, how many lags lead from it, where they lead, their weights
abbrev pub lag_rows : ℕ → ℕ → List Lag → List ℤ
lag_rows zero i lags = []
lag_rows (suc rows) i lags =
    let mine = filter (λ e. e.from == i) lags in
    pos i ∷ pos 1 ∷ pos (length mine) ∷ (map (λ e. pos e.to) mine ++ (map (λ e. e.weight) mine ++ lag_rows rows (i + 1) lags))

-- and another: itself, 1, its duration, its demands
abbrev pub demand_rows : ℕ → List ℤ → List (List ℤ) → List ℤ
demand_rows i [] rows = []
demand_rows i (d ∷ durations) [] = []
demand_rows i (d ∷ durations) (row ∷ rows) = pos i ∷ pos 1 ∷ d ∷ (row ++ demand_rows (i + 1) durations rows)

-- before them four numbers, and after them the capacities
abbrev pub numbers : Problem → List ℤ
numbers p = pos (count p - 2) ∷ pos (length p.capacities) ∷ pos 0 ∷ pos 0
    ∷ (lag_rows (count p) 0 p.lags ++ (demand_rows 0 p.durations p.demands ++ p.capacities))

-- the text spells the project
pub record Spells (text : List ℕ) (p : Problem) : Type 0 where
  pub numbers : map number (words text) ≡ map Some (numbers p)
  pub ends : 2 ≤ count p
  pub rows : length p.demands ≡ count p
  pub columns : All (λ row. length row ≡ length p.capacities) p.demands

-- ---- Answers.

-- a line for each activity: itself, and its start
abbrev pub lines : ℕ → List ℤ → List ℕ
lines i [] = []
lines i (start ∷ starts) = (decimal i ++ (codes " " ++ (signed_decimal start ++ codes "\n"))) ++ lines (i + 1) starts

-- `optimal C`, and a feasible schedule of that makespan: no other one is shorter
pub record IsOptimal (p : Problem) (written : List ℕ) : Type 0 where
  pub starts : List ℤ
  pub feasible : IsFeasible p starts
  pub shortest : IsBound p (makespan starts)
  pub text : written ≡ (codes "optimal" ++ (codes " " ++ (signed_decimal (makespan starts) ++ codes "\n"))) ++ lines 0 starts

-- `no schedule`: there is none
pub record IsNone (p : Problem) (written : List ℕ) : Type 0 where
  pub none : (s : List ℤ) → ¬ IsFeasible p s
  pub text : written ≡ codes "no schedule\n"

abbrev pub bound_text : ℤ → List ℕ
bound_text bound = codes " bound " ++ (signed_decimal bound ++ codes "\n")

-- `feasible C bound B`, and a feasible schedule of makespan C: none is shorter than B
pub record IsStopped (p : Problem) (written : List ℕ) : Type 0 where
  pub starts : List ℤ
  pub bound : ℤ
  pub feasible : IsFeasible p starts
  pub holds : IsBound p bound
  pub text : written ≡ (codes "feasible " ++ (signed_decimal (makespan starts) ++ bound_text bound)) ++ lines 0 starts

-- `unknown bound B`
pub record IsUnknown (p : Problem) (written : List ℕ) : Type 0 where
  pub bound : ℤ
  pub holds : IsBound p bound
  pub text : written ≡ codes "unknown" ++ bound_text bound

-- what is written at exit status 0, and at 3
pub record Says (exit : ℕ) (p : Problem) (written : List ℕ) : Type 0 where
  pub ended : exit ≡ 0 → IsOptimal p written ⊎ IsNone p written
  pub stopped : exit ≡ 3 → IsStopped p written ⊎ IsUnknown p written

-- The answer of a search to the text of a project, with its exit status.
pub record IsAnswer (text : List ℕ) (exit : ℕ) (written : List ℕ) : Type 0 where
  pub project : Problem
  pub spelled : Spells text project
  pub says : Says exit project written

-- what `verify` prints of a project: its least makespan, a bound, or that there is no schedule
abbrev pub IsProved : Problem → List ℕ → Type 0
IsProved p written =
    ((s : List ℤ) × IsFeasible p s × IsBound p (makespan s) × (written ≡ codes "proved optimal " ++ (signed_decimal (makespan s) ++ codes "\n")))
    ⊎ (((b : ℤ) × IsBound p b × (written ≡ codes "proved bound " ++ (signed_decimal b ++ codes "\n")))
    ⊎ (((s : List ℤ) → ¬ IsFeasible p s) × (written ≡ codes "proved no schedule\n")))
