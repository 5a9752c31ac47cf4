use Rattle.std.proofs.lemmas.Result.{IfOk-weaker}
use Rattle.node_tests.proofs.values.matrix_of.Goals as goal

pub returns : goal.returns
returns c = IfOk-weaker c.longest.result _ _
    (λ matrix is. record { pairs = c.args.pairs.now; matrix = record { limits = c.activity_count.ensures.limits; named = c.requires; matrix = is } })
    c.longest.ensures.matrix
