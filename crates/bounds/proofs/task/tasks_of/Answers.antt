use Rattle.std.proofs.Common.{◌≡◌, refl, sym, ap, ◌∙◌, ℕ, ◌*◌, true, false, cond, List, [], ◌∷◌, ◌++◌, append-nil, map, unsigned_abs, rules, arith, w64}
use Rattle.std.proofs.Common.{FitsSigned, nat_lt, lt-ltb, le-ltb}
use Rattle.std.specs.List.{filter, range_with_len}
use Rattle.std.proofs.lemmas.Int.{to_z-of_z}
use Rattle.std.proofs.lemmas.List.FromFn.{filter_of_map_range_with_len_more}
use Rattle.network.specs.Problem.{Problem, duration}
use Rattle.bounds.specs.Energy.{work, task, has_work, Task}
use Rattle.bounds.proofs.task.tasks_of.Goals as goal
use Rattle.bounds.proofs.task.tasks_of.Goals.{then-work-gt0+in_ok-push, else-work-gt0}

pub loop-activity-preserved : goal.loop-activity-preserved
loop-activity-preserved c =
    let p : Problem = c.args.project.now in
    let k : ℕ = c.args.resource in
    let i : ℕ = c.loop-activity.activity in
    let fits : FitsSigned w64 c.duration.result = search rules in
    let duration_is : c.unsigned_abs-duration.result ≡ unsigned_abs (duration p i) =
    c.unsigned_abs-duration.ensures.value
    ∙ ap unsigned_abs (to_z-of_z w64 c.duration.result fits ∙ c.duration.ensures.value) in
    let work_is : c.unsigned_abs-duration.result * c.demand.result ≡ work p k i = rw (duration_is, c.demand.ensures.value) refl in
    let more = filter_of_map_range_with_len_more has_work (task p k) 0 i i (omega arith) in
    let so_far : List Task = filter has_work (map (task p k) (range_with_len 0 i)) in
    let made : ℕ → Task = λ n. record { activity = i; work = n } in
    elim c.if-work-gt0.branch [
      | then-work-gt0+in_ok-push w ↦
          let busy : nat_lt 0 (work p k i) ≡ true = lt-ltb 0 (work p k i) (let h = w.if-work-gt0.true in omega (arith, work_is)) in
          let next : so_far ++ cond (nat_lt 0 (work p k i)) (task p k i ∷ []) [] ≡ so_far ++ task p k i ∷ [] = rw busy refl in
          let joined : c.loop-activity.tasks.items ++ made (c.unsigned_abs-duration.result * c.demand.result) ∷ [] ≡ so_far ++ task p k i ∷ [] =
          ap (λ (xs : List Task). xs ++ made (c.unsigned_abs-duration.result * c.demand.result) ∷ [])
          c.loop-activity.invariant ∙ ap (λ (n : ℕ). so_far ++ made n ∷ []) work_is in
          rw w.tasks-is (w.in_ok-push.ensures.items ∙ joined ∙ sym next ∙ sym more)
      | else-work-gt0 w ↦
          let idle : nat_lt 0 (work p k i) ≡ false = le-ltb 0 (work p k i) (let h = w.if-work-gt0.false in omega (arith, work_is)) in
          let next : so_far ++ cond (nat_lt 0 (work p k i)) (task p k i ∷ []) [] ≡ so_far = rw idle (append-nil so_far) in
          rw w.tasks-is (c.loop-activity.invariant ∙ sym next ∙ sym more)
    ]
