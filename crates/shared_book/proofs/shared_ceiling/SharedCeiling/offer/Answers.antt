use Rattle.std.proofs.Common.{rules}
use Rattle.shared_book.proofs.CeilingSteps.{lowers}
use Rattle.shared_book.proofs.shared_ceiling.SharedCeiling.offer.Goals as goal

pub fetch_min-requires : goal.fetch_min-requires
fetch_min-requires c = (search rules, search rules, lowers _ _ _ _)
