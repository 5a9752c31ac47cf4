use Rattle.std.proofs.Common.{◌∙◌, ap}
use Rattle.branching.specs.Path.{Path}
use Rattle.branching.proofs.searcher.Searcher.is_for.Goals as goal

pub returns : goal.returns
returns c = rw (c.deref.ensures ∙ ap (λ (n : Path). n.project) c.self.view_is) at c.is_of.ensures
