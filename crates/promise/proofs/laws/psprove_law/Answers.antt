use Rattle.promise.proofs.Programs.{psprove_keeps}
use Rattle.promise.proofs.laws.psprove_law.Goals as goal

pub returns : goal.returns
returns c = psprove_keeps
