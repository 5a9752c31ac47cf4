use Rattle.std.proofs.Common.{◌∙◌, ap}
use Rattle.branching.specs.Path.{Path}
use Rattle.branching.proofs.searcher.Searcher.move_to.Goals as goal

pub go_on-requires-clause-live : goal.go_on-requires-clause-live
go_on-requires-clause-live c = rw (c.deref.ensures ∙ ap (λ (n : Path). n.project) c.self.view_is) c.requires.live
