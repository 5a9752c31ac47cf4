use Rattle.std.proofs.Common.{rules, append_assoc}
use Rattle.std.proofs.lemmas.Result.{IfOk-equal}
use Rattle.lemma_log.proofs.overload.put_overload.Goals as goal

pub returns-in_ok-put_window-in-Clique : goal.returns-in_ok-put_window-in-Clique
returns-in_ok-put_window-in-Clique c = search (rules, IfOk-equal, append_assoc)

pub returns-in_ok-put_number-in-Tour-2 : goal.returns-in_ok-put_number-in-Tour-2
returns-in_ok-put_number-in-Tour-2 c = search (rules, IfOk-equal, append_assoc)
