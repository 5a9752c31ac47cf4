use Rattle.lemma_log.proofs.Spelled.{log_is_one, log_is_spelled}
use Rattle.lemma_log.proofs.law.spelling_law.Goals as goal

pub returns-clause-spelled : goal.returns-clause-spelled
returns-clause-spelled c = log_is_spelled

pub returns-clause-one : goal.returns-clause-one
returns-clause-one c = log_is_one
