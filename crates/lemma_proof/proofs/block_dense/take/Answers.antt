use Rattle.std.proofs.Common.{rules, w64, SFits}
use Rattle.std.proofs.lemmas.Int.{to_z-of_z}
use Rattle.longest_path.specs.Insert.{AddsArc, ClosesCycle}
use Rattle.lemma_proof.proofs.block_dense.take.Goals as goal

pub returns-in-Ok-clause-taken : goal.returns-in-Ok-clause-taken
returns-in-Ok-clause-taken c =
    let fits : SFits w64 c.args.arc.weight = search rules in
    let adds : AddsArc c.args.arc c.args.matrix.now.rows c.insert_filling.new.self.rows = simp to_z-of_z at c.in-Ok.ensures.ok in
    (adds, c.in-Ok.ensures.marks)

pub returns-in-Err-PositiveCycle-clause-taken : goal.returns-in-Err-PositiveCycle-clause-taken
returns-in-Err-PositiveCycle-clause-taken c =
    let fits : SFits w64 c.args.arc.weight = search rules in
    let fault = rw c.in-Err-PositiveCycle.field-0-is at c.in-Err-PositiveCycle.ensures.fault in
    let closes : ClosesCycle c.args.arc c.args.matrix.now.rows = simp to_z-of_z at fault.1 in
    (closes, c.in-Err-PositiveCycle.ensures.unchanged)
