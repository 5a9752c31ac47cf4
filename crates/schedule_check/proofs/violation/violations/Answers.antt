use Rattle.std.proofs.Common.{◌≡◌, ◌<◌, ◌∙◌, sym, subst, ℕ, List, [], arith, ◌↔◌, append-nil}
use Rattle.network.specs.declared.parts.Pair.{Pair}
use Rattle.network.specs.Problem.{activity_count, rules}
use Rattle.network.specs.Schedule.{IsFeasible}
use Rattle.network.specs.Walk.{AreInside, AreLight}
use Rattle.network.proofs.FaultLaws.{AreInside-arcs_of, AreLight-arcs_of}
pub use Rattle.schedule_check.specs.declared.violation.Violation.{Violation}
use Rattle.schedule_check.proofs.Listed.{violations_none, joined}
use Rattle.schedule_check.proofs.violation.violations.Goals as goal

pub push_lags-requires-clause-inside : goal.push_lags-requires-clause-inside
push_lags-requires-clause-inside c =
    let named = λ (k : ℕ) (d : Pair) (lt : k < 0). absurd (omega arith) in
    let inside : AreInside (activity_count c.args.project.now) c.deref.result.now =
    subst (AreInside (activity_count c.args.project.now)) (sym (c.deref.ensures.value ∙ c.in_ok-rules.ensures.value))
    (AreInside-arcs_of c.args.project.now [] c.in_ok-rules.ensures.limits named) in
    subst (λ (n : ℕ). AreInside n c.deref.result.now) (sym c.requires.count) inside

pub push_lags-requires-clause-light : goal.push_lags-requires-clause-light
push_lags-requires-clause-light c =
    let named = λ (k : ℕ) (d : Pair) (lt : k < 0). absurd (omega arith) in
    subst AreLight (sym (c.deref.ensures.value ∙ c.in_ok-rules.ensures.value)) (AreLight-arcs_of c.args.project.now [] c.in_ok-rules.ensures.limits named)

pub returns-clause-none : goal.returns-clause-none
returns-clause-none c =
    let p = c.args.project.now in
    let s = c.args.starts.now in
    let arcs : c.deref.result.now ≡ rules c.args.project.now = c.deref.ensures.value ∙ c.in_ok-rules.ensures.value ∙ append-nil (rules c.args.project.now) in
    let listed = joined p s c.deref.result.now c.new-violations.result.items c.push_start.new.violations.items
    c.push_lags.new.violations.items c.push_overloads.new.violations.items arcs c.new-violations.ensures.items
    c.in_ok-push_start.ensures c.in_ok-push_lags.ensures c.in_ok-push_overloads.ensures in
    subst (λ (found : List Violation). (found ≡ []) ↔ IsFeasible c.args.project.now c.args.starts.now) (sym listed) (violations_none p s c.requires)
