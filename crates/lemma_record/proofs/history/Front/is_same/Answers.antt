use Rattle.std.proofs.Common.{◌≡◌, ap, subst, arith, length, List, ◌∙◌, sym}
use Rattle.std.proofs.lemmas.Bool.Decides.{nat_tests}
use mathlib.Core.List.{IsPrefix}
use Rattle.lemma_record.specs.History.{Piece}
use Rattle.lemma_record.proofs.Pieces.{prefix_same}
use Rattle.lemma_record.proofs.history.Front.is_same.Goals as goal

pub returns : goal.returns
returns g c is =
    let both = c.learn.new.self.log in
    let first = c.self.inside.seen.log in
    let second = c.other.inside.seen.log in
    let begins : IsPrefix first both = subst (λ (l : List Piece). IsPrefix l both) (ap (λ s. s.log) c.again-both.ensures) c.learn.ensures.2 in
    let count : c.self.inside.count ≡ c.other.inside.count = grind (arith, nat_tests) in
    let same : length first ≡ length second = omega (arith, c.self.invariant.0, c.other.invariant.0, count) in
    sym c.self.view_is ∙ prefix_same first second both begins c.learn.ensures.3 same ∙ c.other.view_is
