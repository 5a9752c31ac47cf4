use Rattle.std.proofs.Common.{subst}
use Rattle.book.specs.Sound.{EndsWhole}
use Rattle.book.specs.Views.{state_of}
use Rattle.book.proofs.Recorded.{trail_whole}
use Rattle.book.proofs.book.Book.trail.Goals as goal

pub returns-clause-whole : goal.returns-clause-whole
returns-clause-whole c =
    subst EndsWhole c.self.view_is
    (λ over. trail_whole (state_of c.self.inside) c.self.invariant.kept.sound over c.self.invariant.kept.recorded)
