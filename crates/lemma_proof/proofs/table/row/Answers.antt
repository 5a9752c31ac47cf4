use Rattle.std.proofs.Common.{◌≡◌, ◌∙◌, arith, rules, w32, length, [], SFits}
use Rattle.std.proofs.lemmas.Int.{to_z-of_z}
use Rattle.network.proofs.FaultLaws.{appended_more}
use Rattle.lemma_proof.specs.Tables.{cell}
use Rattle.lemma_proof.proofs.table.row.Goals as goal

pub loop-b-preserved : goal.loop-b-preserved
loop-b-preserved c =
    let fits : SFits w32 c.cell.result = search rules in
    appended_more (λ b. cell c.args.matrix.now c.args.a b) 0 c.loop-b.b c.loop-b.b _ [] c.loop-b.cells.items
    c.push.new.self.items c.loop-b.invariant c.in_ok-push.ensures.items (omega arith)
    (to_z-of_z w32 c.cell.result fits ∙ c.cell.ensures)

pub returns : goal.returns
returns c =
    let all : c.loop-b.b ≡ length c.args.matrix.now = omega (arith, c.activity_count-b-end.ensures.value, c.loop-b.auto.b-end) in
    rw all at c.loop-b.invariant
