use Rattle.network.proofs.Sooner.{horizon_suffices}
use Rattle.network.proofs.horizon.horizon_law.Goals as goal

pub returns : goal.returns
returns c = horizon_suffices
