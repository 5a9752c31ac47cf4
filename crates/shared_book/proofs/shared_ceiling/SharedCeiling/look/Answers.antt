use Rattle.std.proofs.Common.{rules}
use Rattle.shared_book.proofs.CeilingSteps.{sees}
use Rattle.shared_book.proofs.shared_ceiling.SharedCeiling.look.Goals as goal

pub load-requires : goal.load-requires
load-requires c = (search rules, search rules, sees _ _ _)
