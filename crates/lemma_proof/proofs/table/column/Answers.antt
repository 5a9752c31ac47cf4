use Rattle.std.proofs.Common.{◌≡◌, ◌∙◌, arith, rules, w32, length, [], SFits}
use Rattle.std.proofs.lemmas.Int.{to_z-of_z}
use Rattle.network.proofs.FaultLaws.{appended_more}
use Rattle.lemma_proof.specs.Tables.{cell}
use Rattle.lemma_proof.proofs.table.column.Goals as goal

pub loop-a-preserved : goal.loop-a-preserved
loop-a-preserved c =
    let fits : SFits w32 c.cell.result = search rules in
    appended_more (λ a. cell c.args.matrix.now a c.args.b) 0 c.loop-a.a c.loop-a.a _ [] c.loop-a.cells.items
    c.push.new.self.items c.loop-a.invariant c.in_ok-push.ensures.items (omega arith)
    (to_z-of_z w32 c.cell.result fits ∙ c.cell.ensures)

pub returns : goal.returns
returns c =
    let all : c.loop-a.a ≡ length c.args.matrix.now = omega (arith, c.activity_count-a-end.ensures.value, c.loop-a.auto.a-end) in
    rw all at c.loop-a.invariant
