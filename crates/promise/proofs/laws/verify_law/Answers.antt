use Rattle.promise.proofs.Programs.{verify_keeps}
use Rattle.promise.proofs.laws.verify_law.Goals as goal

pub returns : goal.returns
returns c = verify_keeps
