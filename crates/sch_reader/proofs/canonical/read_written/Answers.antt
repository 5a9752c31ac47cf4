use Rattle.std.proofs.Common.{sym, ◌∙◌, subst, List, ℕ}
use Rattle.sch_reader.specs.Text.{Spells}
use Rattle.sch_reader.proofs.canonical.read_written.Goals as goal

pub returns : goal.returns
returns c =
    let project = c.args.project.now in
    let text = c.deref.ensures.value ∙ c.in_ok-text.ensures.text in
    c.read_sch.ensures.only project c.in_ok-text.ensures.limits
    (subst (λ (t : List ℕ). Spells t project) (sym text)
    (c.in_ok-text.ensures.spells project c.in_ok-text.ensures.limits))
