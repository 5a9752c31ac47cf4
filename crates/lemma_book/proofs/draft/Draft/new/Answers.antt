use Rattle.std.proofs.Common.{◌≡◌, arith, pos, ◌+◌}
use Rattle.std.proofs.lemmas.Int.{ints}
use Rattle.network.specs.Problem.{IsBetween}
use Rattle.network.specs.Horizon.{horizon}
use Rattle.lemma_book.specs.declared.deadline.TheConstants.{MAX_CEILING}
use Rattle.lemma_book.proofs.Ledgers.{first_is}
use Rattle.lemma_book.proofs.draft.Draft.new.Goals as goal

pub invariant_of-result : goal.invariant_of-result
invariant_of-result c =
    let value : c.horizon_of.result ≡ pos (horizon c.args.project.now) = c.horizon_of.ensures.value in
    let small = c.horizon_of.ensures.small in
    let within : IsBetween (pos 0) MAX_CEILING (pos (horizon c.args.project.now + 1)) =
    record { at_least = omega (arith, ints); at_most = omega (arith, ints, value, small) } in
    first_is c.args.project.now c.in_ok-new.field-0 within c.in_ok-new.ensures
