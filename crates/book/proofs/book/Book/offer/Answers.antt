use Rattle.std.proofs.Common.{◌≡◌, Option, Some, true, refl, subst, rules, IfSome}
use Rattle.std.specs.Arc.{arc_value}
use Rattle.network.specs.Problem.{Problem}
use Rattle.network.specs.Schedule.{ScheduleOf, IsFeasible, makespan, IsScheduleFor}
use Rattle.branching.specs.Right.{IsUnder}
use Rattle.branching.specs.Fair.{ceiling_of}
use Rattle.book.specs.Views.{state_of}
use Rattle.book.proofs.Steps.{kept_improved}
use Rattle.book.proofs.book.Book.offer.Goals as goal

pub invariant_of-self : goal.invariant_of-self
invariant_of-self c =
    let same : c.args.schedule.project ≡ arc_value c.self.inside.project = search rules in
    let under : IsUnder (ceiling_of c.self.inside.best) (makespan c.args.schedule.starts) = search rules in
    let found : Option ScheduleOf = Some c.args.schedule in
    let feasible : IsFeasible (arc_value c.self.inside.project) c.args.schedule.starts =
    subst (λ (p : Problem). IsFeasible p c.args.schedule.starts) same c.makespan.ensures.feasible in
    let of_found : IfSome found (IsScheduleFor (arc_value c.self.inside.project)) = record { project = same; feasible = feasible } in
    record {
      kept = kept_improved (state_of c.self.inside) found found true (c.args.schedule, refl, under, refl)
          of_found c.self.invariant.kept;
      of_trail = c.self.invariant.of_trail;
    }

pub returns-clause-sound : goal.returns-clause-sound
returns-clause-sound c = (invariant_of-self c).kept.sound
