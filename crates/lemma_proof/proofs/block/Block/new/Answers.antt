use Rattle.std.proofs.Common.{◌≡◌, refl, sym, ap, ◌∙◌, subst, []}
use Rattle.longest_path.proofs.Weights.{square_of}
use Rattle.lemma_proof.specs.Heads.{HeadsOf, IsTable, table_rows}
use Rattle.lemma_proof.specs.Halves.{AreConverse}
use Rattle.lemma_proof.proofs.Blocks.{rows_table, columns_table}
use Rattle.lemma_proof.proofs.Converse.{is_matrix_back}
use Rattle.lemma_proof.proofs.Halves.{first_both, first_halves}
use Rattle.lemma_proof.proofs.block.Block.new.Goals as goal

pub new-requires : goal.new-requires
new-requires c =
    let law = c.in_ok-rows.ensures.law in
    let is = rows_table c.args.matrix.now c.in_ok-rows.field-0.items (square_of c.args.matrix.now law) c.requires.full c.in_ok-rows.ensures.rows in
    let table : IsTable c.args.matrix.now = record { matrix = law; full = c.requires.full; some = c.requires.some } in
    subst IsTable (sym is) table

pub new-requires-2 : goal.new-requires-2
new-requires-2 c =
    let is = columns_table c.args.matrix.now c.in_ok-columns.field-0.items c.requires.full c.in_ok-columns.ensures in
    record {
      matrix = is_matrix_back c.args.matrix.now (table_rows c.in_ok-columns.field-0.items) is.square is.converse is.full c.in_ok-rows.ensures.law;
      full = is.full;
      some = rw is.converse.long c.requires.some;
    }

pub invariant_of-result : goal.invariant_of-result
invariant_of-result c =
    let law = c.in_ok-rows.ensures.law in
    let is = columns_table c.args.matrix.now c.in_ok-columns.field-0.items c.requires.full c.in_ok-columns.ensures in
    let rows : table_rows c.in_ok-rows.field-0.items ≡ c.args.matrix.now =
    rows_table c.args.matrix.now c.in_ok-rows.field-0.items (square_of c.args.matrix.now law) c.requires.full
    c.in_ok-rows.ensures.rows in
    let one : IsTable c.args.matrix.now = record { matrix = law; full = c.requires.full; some = c.requires.some } in
    let table : IsTable (table_rows c.in_ok-rows.field-0.items) = subst IsTable (sym rows) one in
    let back_table : IsTable (table_rows c.in_ok-columns.field-0.items) = record {
      matrix = is_matrix_back c.args.matrix.now (table_rows c.in_ok-columns.field-0.items) is.square is.converse is.full law;
      full = is.full;
      some = rw is.converse.long c.requires.some;
    } in
    let converse : AreConverse (table_rows c.in_ok-rows.field-0.items) (table_rows c.in_ok-columns.field-0.items) = rw rows is.converse in
    let x : HeadsOf = record {
      rows = table_rows c.in_ok-rows.field-0.items;
      arcs = [];
      heads =
          c.in_ok-heads.heads.heads;
      tried = c.in_ok-heads.heads.heads;
    } in
    let y : HeadsOf = record {
      rows = table_rows c.in_ok-columns.field-0.items;
      arcs = [];
      heads =
          c.in_ok-tails.tails.heads;
      tried = c.in_ok-tails.tails.heads;
    } in
    let both = first_both (table_rows c.in_ok-rows.field-0.items) (table_rows c.in_ok-columns.field-0.items)
    c.in_ok-heads.heads.heads c.in_ok-tails.tails.heads table converse c.in_ok-heads.ensures.first
    c.in_ok-tails.ensures.first in
    rw (c.new-3.ensures.items, c.in_ok-heads.ensures.made, c.in_ok-tails.ensures.made)
    (first_halves x y converse table back_table refl refl c.in_ok-heads.ensures.first c.in_ok-tails.ensures.first both)

pub returns-clause-rows : goal.returns-clause-rows
returns-clause-rows c =
    let law = c.in_ok-rows.ensures.law in
    ap (λ (h : HeadsOf). h.rows) c.in_ok-heads.ensures.made
    ∙ rows_table c.args.matrix.now c.in_ok-rows.field-0.items (square_of c.args.matrix.now law) c.requires.full
    c.in_ok-rows.ensures.rows
