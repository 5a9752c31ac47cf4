use Rattle.std.proofs.Common.{◌≡◌, ap}
use Rattle.std.proofs.lemmas.Bool.{iff_false}
use Rattle.search_record.specs.Right.{why_wrong}
use Rattle.record_text.proofs.FirstWrong.{fault_at}
use Rattle.search_record.proofs.Steps.{tree_some, dead_right, dead_wrong}
use Rattle.search_record.proofs.lines.check_dead.Goals as goal

pub bounds-lines-0 : goal.bounds-lines-0
bounds-lines-0 c = tree_some c.args.lines.now c.requires.0 c.requires.1

pub returns-then-is_infeasible-clause-right : goal.returns-then-is_infeasible-clause-right
returns-then-is_infeasible-clause-right c = λ p limit died.
    dead_right p limit c.args.lines.now c.index-lines-0.result c.requires.0 c.requires.1 c.index-lines-0.is
    (c.is_infeasible.ensures.0 c.if-is_infeasible.true) died

pub returns-clause-fault : goal.returns-clause-fault
returns-clause-fault c = λ p limit died.
    let why : fault_at c.args.first c.why_wrong.result ≡ fault_at c.args.first (why_wrong c.index-lines-0.result) =
    ap (fault_at c.args.first) c.why_wrong.ensures in
    dead_wrong p limit c.args.first c.args.lines.now c.index-lines-0.result c.requires.0
    (fault_at c.args.first c.why_wrong.result) c.requires.1 c.index-lines-0.is
    (iff_false c.is_infeasible.ensures c.if-is_infeasible.false) died why
