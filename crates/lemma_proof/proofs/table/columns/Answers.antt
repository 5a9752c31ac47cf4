use Rattle.std.proofs.Common.{◌≡◌, ◌∙◌, ap, arith, length, [], ◌∷◌, ◌++◌, map, ℤ, Vec, Global}
use Rattle.std.proofs.lemmas.List.{map-append}
use Rattle.network.proofs.FaultLaws.{appended_more}
use Rattle.lemma_proof.specs.Tables.{column_cells}
use Rattle.lemma_proof.proofs.table.columns.Goals as goal

pub loop-b-preserved : goal.loop-b-preserved
loop-b-preserved c =
    let items : map (λ cells. cells.items) c.push.new.self.items ≡ map (λ cells. cells.items) c.loop-b.table.items ++
    c.in_ok-column.field-0.items ∷ [] = ap (map (λ (cells : Vec ℤ Global). cells.items)) c.in_ok-push.ensures.items
    ∙ map-append (λ (cells : Vec ℤ Global). cells.items) c.loop-b.table.items (c.in_ok-column.field-0 ∷ []) in
    appended_more (column_cells c.args.matrix.now) 0 c.loop-b.b c.loop-b.b _ []
    (map (λ cells. cells.items) c.loop-b.table.items) (map (λ cells. cells.items) c.push.new.self.items)
    c.loop-b.invariant items (omega arith) c.in_ok-column.ensures

pub returns : goal.returns
returns c =
    let all : c.loop-b.b ≡ length c.args.matrix.now = omega (arith, c.activity_count-b-end.ensures.value, c.loop-b.auto.b-end) in
    rw all at c.loop-b.invariant
