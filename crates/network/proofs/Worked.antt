-- The definitions at two small projects, which the checker computes.
-- B has two activities of 3 and 4 periods that need the same machine. G has three activities of 2, 3
-- and 2 periods with demands 2, 2 and 1 on three units; activity 3 starts at least 1 and at most 3
-- periods after activity 1.
use Rattle.std.proofs.Common.{◌≡◌, refl, ℕ, ℤ, pos, negsuc, ◌≤ℤ◌, ◌+ℤ◌, List, [], ◌∷◌, ◌++◌, true, false, lit<, arith, int_le, Bool, Some}
use Rattle.std.proofs.lemmas.Int.{ints}
use Rattle.std.proofs.lemmas.List.Elements.{All-weaker}
use Rattle.std.proofs.lemmas.List.Sums.{AllPass-from_list_all}
use Rattle.std.specs.List.{All, list_all}
use Rattle.network.specs.declared.parts.ProjectFault.TheVariants.{Limit, Activity, Dummy, Shape}
use Rattle.network.specs.declared.parts.Quantity.TheVariants as quantity
use Rattle.network.specs.Faults.{first_fault}
use Rattle.network.specs.Schedule.{IsForbidden, start, makespan, Meets, IsSchedule, Keeps, is_running, running, use_at, IsFeasible}
use Rattle.network.specs.Problem.{IsProject, Problem, end_of, duration, demand, capacity, rules, arcs_of, Lag, Pair}
use Rattle.network.specs.Walk.{IsPositiveCycle}
use Rattle.network.proofs.FaultLaws.{IsProject-from_no_fault}

abbrev arc : ℕ → ℕ → ℤ → Lag
arc i j w = record { from = i; to = j; weight = w }

abbrev pair : ℕ → ℕ → Pair
pair i j = record { before = i; after = j }

abbrev numbers : ℕ → ℕ → ℕ → ℕ → List ℤ
numbers a b c d = pos a ∷ pos b ∷ pos c ∷ pos d ∷ []

abbrev one : ℕ → List ℤ
one r = pos r ∷ []

abbrev b : Problem
b = record { durations = numbers 0 3 4 0; demands = one 0 ∷ one 1 ∷ one 1 ∷ one 0 ∷ []; capacities = one 1; lags = [] }

abbrev g : Problem
g = record {
  durations = pos 0 ∷ pos 2 ∷ pos 3 ∷ pos 2 ∷ pos 0 ∷ [];
  demands = one 0 ∷ one 2 ∷ one 2 ∷ one 1 ∷ one 0 ∷ [];
  capacities = one 3;
  lags = arc 1 3 (pos 1) ∷ arc 3 1 (negsuc 2) ∷ [];
}

b_is_project : IsProject b
b_is_project = IsProject-from_no_fault b refl

g_is_project : IsProject g
g_is_project = IsProject-from_no_fault g refl

-- B's rules: each activity from the start on, and before the end
b_rules : rules b ≡ arc 0 1 (pos 0) ∷ arc 0 2 (pos 0) ∷ arc 0 3 (pos 0) ∷ arc 0 3 (pos 0) ∷ arc 1 3 (pos 3) ∷ arc 2 3 (pos 4) ∷ []
b_rules = refl

-- the given arcs come first, and the arc of a pair last
g_arcs : arcs_of g (pair 2 3 ∷ []) ≡ (arc 1 3 (pos 1) ∷ arc 3 1 (negsuc 2) ∷ arc 0 1 (pos 0) ∷ arc 0 2 (pos 0) ∷ arc 0 3
    (pos 0) ∷ arc 0 4 (pos 0) ∷ []) ++ (arc 0 4 (pos 0) ∷ arc 1 4 (pos 2) ∷ arc 2 4 (pos 3) ∷ arc 3 4 (pos 2) ∷ arc 2 3
    (pos 3) ∷ [])
g_arcs = refl

b_amounts : (end_of b ≡ 3) × (duration b 2 ≡ pos 4) × (demand b 0 1 ≡ 1) × (capacity b 0 ≡ 1)
b_amounts = (refl, refl, refl, refl)

-- an activity runs from its start on, and not at its end; one of no duration never does
b_runs : (is_running b (numbers 0 0 3 7) (pos 2) 1 ≡ true) × (is_running b (numbers 0 0 3 7) (pos 3) 1 ≡ false)
    × (is_running b (numbers 0 0 3 7) (pos 0) 0 ≡ false)
b_runs = (refl, refl, refl)

b_use : (use_at b (numbers 0 0 3 7) 0 (pos 3) ≡ 1) × (use_at b (numbers 0 0 2 6) 0 (pos 2) ≡ 2) × (use_at b (numbers 0 0 3 7) 0 (pos 7) ≡ 0)
b_use = (refl, refl, refl)

g_use : use_at g (pos 0 ∷ pos 0 ∷ pos 0 ∷ pos 1 ∷ pos 3 ∷ []) 0 (pos 1) ≡ 5
g_use = refl

b_running : running b (numbers 0 0 2 6) (pos 2) ≡ 1 ∷ 2 ∷ []
b_running = refl

b_makespan : makespan (numbers 0 4 0 7) ≡ pos 7
b_makespan = refl

abbrev meets : List ℤ → Lag → Bool
meets s e = int_le (start s e.from +ℤ e.weight) (start s e.to)

met : (s : List ℤ) (es : List Lag) → list_all (meets s) es ≡ true → All (Meets s) es
met s es e = All-weaker (λ e. meets s e ≡ true) (Meets s) (λ e h. grind (arith, ints)) es (AllPass-from_list_all (meets s) es e)

-- 0, 4, 0, 7 meets all rules of B and keeps (2, 1)
b_schedule : IsSchedule b (numbers 0 4 0 7)
b_schedule = record {
  whole = refl;
  from_zero = refl;
  rules_met = met (numbers 0 4 0 7) (rules b) refl;
}

b_keeps : Keeps b (numbers 0 4 0 7) (pair 2 1)
b_keeps = omega (arith, ints)

b_keeps_not : Keeps b (numbers 0 4 0 7) (pair 1 2) → ⊥
b_keeps_not h = omega (arith, ints)

-- with 6 for the end activity 2 does not end in time
b_no_schedule : IsSchedule b (numbers 0 0 3 6) → ⊥
b_no_schedule is =
    let last : (start (numbers 0 0 3 6) 2 +ℤ pos 4) ≤ℤ start (numbers 0 0 3 6) 3 = is.rules_met 5 (arc 0 0 (pos 0)) (lit< tt) in
    omega (arith, ints)

-- at period 2 both activities run, and use two units of one
b_overload : IsFeasible b (numbers 0 0 2 6) → ⊥
b_overload is = let over = is.within (pos 2) 0 (lit< tt) in omega arith

-- the two activities of B are forbidden together, and neither alone
b_forbidden : IsForbidden b 0 (1 ∷ 2 ∷ [])
b_forbidden = lit< tt

b_alone : IsForbidden b 0 (1 ∷ []) → ⊥
b_alone h = omega arith

-- a lag of 5 and a greatest lag of 4 between the same two close a walk of weight 1
b_cycle : IsPositiveCycle (arc 1 2 (pos 5) ∷ arc 2 1 (negsuc 3) ∷ []) 1 (arc 1 2 (pos 5) ∷ arc 2 1 (negsuc 3) ∷ [])
b_cycle = record {
  closed = ((0, lit< tt, refl), refl, ((1, lit< tt, refl), refl, refl));
  positive = omega (arith, ints);
}

-- B with other lists has these first faults
abbrev with_lags : List Lag → Problem
with_lags es = record b { lags = es }

b_shape : (first_fault (record b { demands = one 0 ∷ one 1 ∷ one 1 ∷ [] }) ≡ Some Shape)
    × (first_fault (with_lags (arc 2 1 (pos 0) ∷ arc 1 2 (pos 0) ∷ [])) ≡ Some Shape)
b_shape = (refl, refl)

b_dummy : first_fault (record b { durations = numbers 0 3 4 2 }) ≡ Some (Dummy 3)
b_dummy = refl

b_limits : (first_fault (record b { durations = numbers 0 3 1000001 0; lags = arc 1 9 (pos 0) ∷ [] }) ≡ Some
    (Limit quantity.Duration)) × (first_fault (record b { capacities = negsuc 0 ∷ [] }) ≡ Some
    (Limit quantity.Capacity)) × (first_fault (with_lags (arc 2 1 (pos 0) ∷ arc 1 2 (negsuc 1000000) ∷ [])) ≡ Some
    (Limit quantity.Lag))
b_limits = (refl, refl, refl)

b_activity : (first_fault (with_lags (arc 1 2 (pos 0) ∷ arc 4 2 (pos 0) ∷ [])) ≡ Some (Activity 1 4))
    × (first_fault (with_lags (arc 1 7 (pos 2000000) ∷ [])) ≡ Some (Activity 0 7))
b_activity = (refl, refl)

-- the arc of a pair comes last
b_arcs : arcs_of (with_lags (arc 1 2 (pos 5) ∷ [])) (pair 2 1 ∷ []) ≡ arc 1 2 (pos 5) ∷ arc 0 1 (pos 0) ∷ arc 0 2
    (pos 0) ∷ arc 0 3 (pos 0) ∷ arc 0 3 (pos 0) ∷ arc 1 3 (pos 3) ∷ arc 2 3 (pos 4) ∷ arc 2 1 (pos 4) ∷ []
b_arcs = refl
