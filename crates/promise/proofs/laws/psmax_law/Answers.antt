use Rattle.promise.proofs.Programs.{psmax_keeps}
use Rattle.promise.proofs.laws.psmax_law.Goals as goal

pub returns : goal.returns
returns c = psmax_keeps
