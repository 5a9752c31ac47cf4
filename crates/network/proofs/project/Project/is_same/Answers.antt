use Rattle.std.proofs.Common.{◌≡◌, sym, ap, ◌∙◌, rules}
use Rattle.network.specs.Equality.{problem_eq, problem_eq_equiv}
use Rattle.network.proofs.Equal.{problem_eq-true}
use Rattle.network.proofs.project.Project.is_same.Goals as goal

pub returns : goal.returns
returns c =
    let same : c.eq.result ≡ problem_eq c.args.self.now c.args.other.now = search rules in (
      (λ yes. problem_eq-true c.args.self.now c.args.other.now (sym same ∙ yes)),
      (λ e. same ∙ ap (problem_eq c.args.self.now) (sym e) ∙ problem_eq_equiv.refl c.args.self.now),
    )
