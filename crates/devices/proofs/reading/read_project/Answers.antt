use Rattle.std.proofs.Common.{◌∙◌, ap}
use Rattle.std.proofs.lemmas.Result.{MatchResult-weaker}
use Rattle.devices.specs.Faults.{exit_of}
use Rattle.devices.proofs.TextLaws.{fault_whole, spells_whole}
use Rattle.devices.proofs.reading.read_project.Goals as goal

pub returns-clause-project : goal.returns-clause-project
returns-clause-project g c =
    MatchResult-weaker c.project_of.result c.project_of.ensures.project
    (λ p is. (is.0, λ bytes told. spells_whole c.deref.result.now bytes p (c.deref.ensures.value ∙ c.in_ok-text.ensures.told bytes told) is.1))
    (λ _ _. tt)

pub returns-clause-refused : goal.returns-clause-refused
returns-clause-refused g c =
    MatchResult-weaker c.project_of.result c.project_of.ensures.refused (λ _ _. tt)
    (λ fault refused other bytes told. fault_whole c.deref.result.now bytes fault
    (c.deref.ensures.value ∙ c.in_ok-text.ensures.told bytes told) (refused (λ is. other (ap exit_of is))))
