use Rattle.std.proofs.Common.{◌≡◌, ◌∙◌, ap, arith, length, [], ◌∷◌, ◌++◌, map, ℤ, Vec, Global}
use Rattle.std.proofs.lemmas.List.{map-append}
use Rattle.network.proofs.FaultLaws.{appended_more}
use Rattle.lemma_proof.specs.Tables.{row_cells}
use Rattle.lemma_proof.proofs.table.rows.Goals as goal

pub loop-a-preserved : goal.loop-a-preserved
loop-a-preserved c =
    let items : map (λ cells. cells.items) c.push.new.self.items ≡ map (λ cells. cells.items) c.loop-a.table.items ++
    c.in_ok-row.field-0.items ∷ [] = ap (map (λ (cells : Vec ℤ Global). cells.items)) c.in_ok-push.ensures.items
    ∙ map-append (λ (cells : Vec ℤ Global). cells.items) c.loop-a.table.items (c.in_ok-row.field-0 ∷ []) in
    appended_more (row_cells c.args.matrix.now) 0 c.loop-a.a c.loop-a.a _ []
    (map (λ cells. cells.items) c.loop-a.table.items) (map (λ cells. cells.items) c.push.new.self.items)
    c.loop-a.invariant items (omega arith) c.in_ok-row.ensures

pub returns-clause-rows : goal.returns-clause-rows
returns-clause-rows c =
    let all : c.loop-a.a ≡ length c.args.matrix.now = omega (arith, c.activity_count-a-end.ensures.value, c.loop-a.auto.a-end) in
    rw all at c.loop-a.invariant
