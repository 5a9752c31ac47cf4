use Rattle.std.proofs.Common.{◌≡◌, ◌≢◌, ℕ, ℤ, Option, Some, refl, subst, slice_get, rules}
use Rattle.std.specs.Arc.{arc_value}
use Rattle.branching.specs.Subproblem.{Subproblem}
use Rattle.book.specs.State.{BookState, best_makespan}
use Rattle.branching.specs.Right.{IsInTime}
use Rattle.book.specs.Steps.{IsInHand}
use Rattle.book.specs.Views.{state_of}
pub use Rattle.book.specs.declared.book.Book.TheInside.{Inside}
use Rattle.book.proofs.book.Book.judge.Goals as goal

held_there : (b : Inside) (s : BookState) (worker name : ℕ) (node : Subproblem) → state_of b ≡ s
    → slice_get b.hands worker ≡ Some (Some (record { name = name; node = node }))
    → slice_get s.hands worker ≡ Some (Some (record { name = name; node = node }))
held_there b s worker name node is holds = subst (λ (s : BookState). slice_get s.hands worker ≡ Some (Some (record { name = name; node = node }))) is holds

-- the node that was found by its name
found_in_hand : (b : Inside) (s : BookState) (worker name : ℕ) (node : Subproblem) → state_of b ≡ s
    → slice_get b.hands worker ≡ Some (Some (record { name = name; node = node }))
    → IsInHand s name (record { name = name; node = node })
found_in_hand b s worker name node is holds = record {
  worker = worker;
  holds = held_there b s worker name node is holds;
  named = refl;
}

pub returns-then-not-is_same-clause-judged : goal.returns-then-not-is_same-clause-judged
returns-then-not-is_same-clause-judged c =
    let node : Subproblem = arc_value c.in-Some.node.now in
    let holds : slice_get c.self.inside.hands c.in-Some.worker ≡ Some (Some (record { name = c.args.name; node = node })) = search rules in
    let other : node.pairs ≢ c.args.report.now.node.pairs = search rules in
    (record { name = c.args.name; node = node }, found_in_hand c.self.inside c.args.self.now c.in-Some.worker c.args.name node c.self.view_is holds, other)

pub returns-then-not-is_of-clause-judged : goal.returns-then-not-is_of-clause-judged
returns-then-not-is_of-clause-judged c =
    let node : Subproblem = arc_value c.in-Some.node.now in
    let holds : slice_get c.self.inside.hands c.in-Some.worker ≡ Some (Some (record { name = c.args.name; node = node })) = search rules in
    let pairs : node.pairs ≡ c.args.report.now.node.pairs = search rules in
    let other : c.args.report.now.node.project ≢ arc_value c.self.inside.project = search rules in (
      record { name = c.args.name; node = node },
      found_in_hand c.self.inside c.args.self.now c.in-Some.worker c.args.name node c.self.view_is holds,
      pairs,
      subst (λ (s : BookState). c.args.report.now.node.project ≢ s.project) c.self.view_is other,
    )

pub returns-then-not-is_in_time-clause-judged : goal.returns-then-not-is_in_time-clause-judged
returns-then-not-is_in_time-clause-judged c =
    let node : Subproblem = arc_value c.in-Some.node.now in
    let holds : slice_get c.self.inside.hands c.in-Some.worker ≡ Some (Some (record { name = c.args.name; node = node })) = search rules in
    let pairs : node.pairs ≡ c.args.report.now.node.pairs = search rules in
    let project : c.args.report.now.node.project ≡ arc_value c.self.inside.project = search rules in
    let found_late : ¬ IsInTime c.ceiling.result c.makespan_of-best.result = c.if-not-is_in_time.ensures.no in
    let ceiling : c.ceiling.result ≡ c.args.report.now.ceiling = search rules in
    let late : ¬ IsInTime c.args.report.now.ceiling c.makespan_of-best.result =
    subst (λ (o : Option ℤ). ¬ IsInTime o c.makespan_of-best.result) ceiling found_late in
    let best : c.makespan_of-best.result ≡ best_makespan (state_of c.self.inside) = c.makespan_of-best.ensures in (
      record { name = c.args.name; node = node },
      found_in_hand c.self.inside c.args.self.now c.in-Some.worker c.args.name node c.self.view_is holds,
      pairs,
      subst (λ (s : BookState). c.args.report.now.node.project ≡ s.project) c.self.view_is project,
      subst (λ (s : BookState). ¬ IsInTime c.args.report.now.ceiling (best_makespan s)) c.self.view_is
          (subst (λ (o : Option ℤ). ¬ IsInTime c.args.report.now.ceiling o) best late),
      subst (λ (s : BookState). c.makespan_of-best.result ≡ best_makespan s) c.self.view_is c.makespan_of-best.ensures,
    )

pub returns-clause-judged : goal.returns-clause-judged
returns-clause-judged c =
    let node : Subproblem = arc_value c.in-Some.node.now in
    let holds : slice_get c.self.inside.hands c.in-Some.worker ≡ Some (Some (record { name = c.args.name; node = node })) = search rules in
    let pairs : node.pairs ≡ c.args.report.now.node.pairs = search rules in
    let project : c.args.report.now.node.project ≡ arc_value c.self.inside.project = search rules in
    let in_time : IsInTime c.args.report.now.ceiling (best_makespan (state_of c.self.inside)) = search rules in
    record {
      held = record { name = c.args.name; node = node };
      holds = held_there c.self.inside c.args.self.now c.in-Some.worker c.args.name node c.self.view_is holds;
      named = refl;
      pairs = pairs;
      project = subst (λ (s : BookState). c.args.report.now.node.project ≡ s.project) c.self.view_is project;
      in_time = subst (λ (s : BookState). IsInTime c.args.report.now.ceiling (best_makespan s)) c.self.view_is in_time;
    }
