-- What the crates say of answers keeps the promise.
use Rattle.std.proofs.Common.{◌≡◌, ◌∙◌, ◌⊎◌, inl, inr, ℕ, ℤ, Bool, false, List, ◌++◌, Option, None, Some, sym, ap, subst, codes, arith}
use Rattle.network.specs.Problem.{Problem}
use Rattle.network.specs.Schedule as network
use Rattle.network.specs.declared.verdict.Verdict.{Verdict}
use Rattle.network.specs.declared.verdict.Verdict.TheVariants as verdict
use Rattle.std.specs.Fmt.{signed_decimal}
use Rattle.answers.specs.Answers.{IsFoundText, IsNoScheduleText, IsOptimalText, IsSolveText, IsStartedText, IsUnknownText, IsViolationsText, proved_line, start_lines}
use Rattle.devices.specs.Texts.{SpellsOne}
use Rattle.promise.specs.Promise.{IsAnswer, IsBound, IsNone, IsOptimal, IsProved, IsStopped, IsUnknown, Says, makespan}
use Rattle.promise.proofs.Words.{bound_from, from_crates, same_lines, spelled, to_crates}

at_0 : (p : Problem) (exit : ℕ) (written : List ℕ) → exit ≡ 0 → IsOptimal p written ⊎ IsNone p written → Says exit p written
at_0 p exit written is says = record { ended = λ _. says; stopped = λ other. absurd (omega (arith, is, other)) }

at_3 : (p : Problem) (exit : ℕ) (written : List ℕ) → exit ≡ 3 → IsStopped p written ⊎ IsUnknown p written → Says exit p written
at_3 p exit written is says = record { ended = λ other. absurd (omega (arith, is, other)); stopped = λ _. says }

optimal : (p : Problem) (exit : ℕ) (written : List ℕ) → IsOptimalText p false exit written → Says exit p written
optimal p exit written is = at_0 p exit written is.status (inl (record {
  starts = is.starts;
  feasible = from_crates p is.starts is.feasible;
  shortest = bound_from p (makespan is.starts) is.shortest.bound;
  text = rw (← same_lines 0 is.starts) is.text;
}))

none : (p : Problem) (exit : ℕ) (written : List ℕ) → IsNoScheduleText p false exit written → Says exit p written
none p exit written is = at_0 p exit written is.status (inr (record {
  none = λ s f. is.none s (to_crates p s f);
  text = is.text;
}))

bounded : (p : Problem) (exit : ℕ) (written : List ℕ) (starts : List ℤ) (bound : ℤ) → network.IsFeasible p starts → network.IsLowerBound p bound
    → written ≡ (codes "feasible " ++ (signed_decimal (makespan starts) ++ (codes " bound " ++ (signed_decimal bound ++ codes "\n")))) ++ start_lines 0 starts
    → exit ≡ 3 → Says exit p written
bounded p exit written starts bound feasible holds text status = at_3 p exit written status (inl (record {
  starts = starts;
  bound = bound;
  feasible = from_crates p starts feasible;
  holds = bound_from p bound holds;
  text = rw (← same_lines 0 starts) text;
}))

unknown : (p : Problem) (exit : ℕ) (written : List ℕ) → IsUnknownText p false exit written → Says exit p written
unknown p exit written is = at_3 p exit written is.status (inr (record {
  bound = is.bound;
  holds = bound_from p is.bound is.holds;
  text = is.text;
}))

pub says_of : (p : Problem) (alone : Bool) (exit : ℕ) (written : List ℕ) → IsSolveText p alone false exit written → Says exit p written
says_of p alone exit written (inl is) = optimal p exit written is
says_of p alone exit written (inr (inl is)) = none p exit written is
says_of p alone exit written (inr (inr (inl is))) = bounded p exit written is.starts is.bound is.feasible is.holds is.text is.status
says_of p alone exit written (inr (inr (inr is))) = unknown p exit written is

pub says_found : (p : Problem) (from : Option (List ℤ)) (exit : ℕ) (written : List ℕ) → IsFoundText p from false exit written → Says exit p written
says_found p None exit written is = says_of p false exit written is
says_found p (Some from) exit written (inl is) = optimal p exit written is
says_found p (Some from) exit written (inr is) = bounded p exit written is.starts is.bound is.feasible is.holds is.text is.status

-- of starts that are refused nothing is said
pub says_violations : (p : Problem) (starts : List ℤ) (exit : ℕ) (written : List ℕ) → IsViolationsText p starts exit written → Says exit p written
says_violations p starts exit written is =
    record { ended = λ other. absurd (omega (arith, is.status, other)); stopped = λ other. absurd (omega (arith, is.status, other)) }

pub says_started : (p : Problem) (starts : List ℤ) (exit : ℕ) (written : List ℕ) → IsStartedText p starts false exit written → Says exit p written
says_started p starts exit written (inl is) = says_violations p starts exit written is
says_started p starts exit written (inr is) = says_found p (Some starts) exit written is.1

-- what is said of the project that a text spells
pub answer_of : (text : List ℕ) (exit : ℕ) (written : List ℕ) (Has : Problem → Type 0) → SpellsOne text Has
    → ((p : Problem) → Has p → Says exit p written) → IsAnswer text exit written
answer_of text exit written Has one says = record {
  project = one.project;
  spelled = spelled text one.project one.is_project one.spells;
  says = says one.project one.has;
}

pub proved_of : (p : Problem) (what : Verdict) (written : List ℕ) → network.IsTrueVerdict p what → written ≡ proved_line what → IsProved p written
proved_of p (verdict.Optimal m) written is text =
    let s = is.witness.0 in
    let e : makespan s ≡ m = is.witness.2 in
    inl (
      s,
      from_crates p s is.witness.1,
      subst (IsBound p) (sym e) (bound_from p m is.bound),
      text ∙ ap (λ (c : ℤ). proved_line (verdict.Optimal c)) (sym e),
    )
proved_of p (verdict.Bound b) written is text = inr (inl (b, bound_from p b is, text))
proved_of p verdict.NoSchedule written is text = inr (inr ((λ s f. is s (to_crates p s f)), text))
