-- When the list of violations is empty.
use Rattle.std.proofs.Common.{◌≡◌, Bool, true, false, cond, List, [], ◌∷◌, ◌++◌, refl, append_assoc, arith, ℤ, pos, ◌+ℤ◌, ◌≤ℤ◌, int_lt, ◌↔◌}
use Rattle.std.specs.List.{AllByRecursion, filter}
use Rattle.std.specs.Ordering.{int_eq}
use Rattle.std.proofs.lemmas.Int.{ints}
use Rattle.std.proofs.lemmas.List.Elements.{recursion_from_All, All-from_recursion, All-weaker}
use Rattle.network.specs.declared.parts.Lag.{Lag}
use Rattle.network.specs.Problem.{Problem, rules, AreStarts}
use Rattle.network.specs.Schedule.{start, Meets, IsFeasible}
use Rattle.profile.specs.Overloads.{all_overloads}
use Rattle.profile.proofs.Swept.{filter_nil, map_nil, append_nil_left, append_nil_right, overloads_none}
use Rattle.schedule_check.specs.declared.violation.Violation.{Violation}
use Rattle.schedule_check.specs.declared.violation.Violation.TheVariants as violation
use Rattle.schedule_check.specs.Violations.{start_violations, breaks, lag_violation, lag_violations, overload_violation, overload_violations, violations}

zero_is_zero : (z : ℤ) → int_eq z (pos 0) ≡ true → z ≡ pos 0
zero_is_zero z h = grind (arith, ints)

zero_is : (z : ℤ) → z ≡ pos 0 → int_eq z (pos 0) ≡ true
zero_is z h = rw h refl

met_rule : (a b : ℤ) → int_lt b a ≡ false → a ≤ℤ b
met_rule a b h = grind (arith, ints)

unbroken : (a b : ℤ) → a ≤ℤ b → int_lt b a ≡ false
unbroken a b h = grind (arith, ints)

starts_at_zero : (s : List ℤ) → start_violations s ≡ [] → start s 0 ≡ pos 0
starts_at_zero s h = zero_is_zero (start s 0) (none_by (int_eq (start s 0) (pos 0)) h)
  where
    none_by : (b : Bool) → cond b [] (violation.StartNotZero (start s 0) ∷ []) ≡ [] → b ≡ true
    none_by true h = refl
    none_by false h = absurd (cc)

filter_nothing : {X : Type 0} (q : X → Bool) (xs : List X) → AllByRecursion (λ x. q x ≡ false) xs → filter q xs ≡ []
filter_nothing q [] all = refl
filter_nothing q (x ∷ xs) all = rw all.0 (filter_nothing q xs all.1)

-- no violation is listed exactly where the starts are a feasible schedule
pub violations_none : (p : Problem) (s : List ℤ) → AreStarts p s → (violations p s ≡ []) ↔ IsFeasible p s
violations_none p s are = (feasible, none)
  where
    feasible : violations p s ≡ [] → IsFeasible p s
    feasible h =
        let others = append_nil_right (start_violations s) (lag_violations s (rules p) ++ overload_violations (all_overloads p s)) h in
        let lags = append_nil_left (lag_violations s (rules p)) (overload_violations (all_overloads p s)) others in
        let overloads = append_nil_right (lag_violations s (rules p)) (overload_violations (all_overloads p s)) others in
        let met = filter_nil (breaks s) (rules p) (map_nil lag_violation (filter (breaks s) (rules p)) lags) in
        record {
          schedule = record {
            whole = are.count;
            from_zero = starts_at_zero s (append_nil_left (start_violations s) (lag_violations s (rules p) ++ overload_violations (all_overloads p s)) h);
            rules_met = All-weaker (λ rule. breaks s rule ≡ false) (Meets s)
                (λ rule kept. met_rule (start s rule.from +ℤ rule.weight) (start s rule.to) kept) (rules p)
                (All-from_recursion (λ rule. breaks s rule ≡ false) (rules p) met);
          };
          within = (overloads_none p s are).0 (map_nil overload_violation (all_overloads p s) overloads);
        }

    none : IsFeasible p s → violations p s ≡ []
    none is =
        let at_zero = zero_is (start s 0) is.schedule.from_zero in
        let met = All-weaker (Meets s) (λ rule. breaks s rule ≡ false)
        (λ rule kept. unbroken (start s rule.from +ℤ rule.weight) (start s rule.to) kept) (rules p)
        is.schedule.rules_met in
        let lags = filter_nothing (breaks s) (rules p) (recursion_from_All (λ rule. breaks s rule ≡ false) (rules p) met) in
        let overloads = (overloads_none p s are).1 is.within in
        rw (at_zero, lags, overloads) refl

-- the three parts of the list, one after the other
pub joined : (p : Problem) (s : List ℤ) (arcs : List Lag) (empty at_start with_lags all : List Violation)
    → arcs ≡ rules p → empty ≡ [] → at_start ≡ empty ++ start_violations s
    → with_lags ≡ at_start ++ lag_violations s arcs → all ≡ with_lags ++ overload_violations (all_overloads p s) →
    all ≡ violations p s
joined p s arcs empty at_start with_lags all are none first second third =
    rw (third, second, first, none, are) (append_assoc (start_violations s) (lag_violations s (rules p)) (overload_violations (all_overloads p s)))
