use Rattle.std.proofs.Common.{◌∙◌, rules}
use Rattle.std.proofs.lemmas.Result.{IfOk-weaker}
use Rattle.schedule_check.proofs.Tables.{empty_table}
use Rattle.schedule_check.proofs.starts_text.empty_table.Goals as goal

pub returns : goal.returns
returns c = IfOk-weaker c.vec.result _ _ (λ table same. same (λ y h. search rules) ∙ empty_table c.args.activities) c.vec.ensures.items_if_clones_equal
