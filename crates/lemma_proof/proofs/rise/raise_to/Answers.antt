use Rattle.std.proofs.Common.{arith, ◌≡◌, refl, sym, ◌∙◌, ap, ◌<◌, ◌+ℤ◌, ℤ, length, w32, w64, SFits}
use Rattle.std.specs.Int.{int_max}
use Rattle.std.proofs.lemmas.Int.{ints, to_z-of_z}
use Rattle.network.specs.Schedule.{start}
use Rattle.network.specs.Walk.{entry}
use Rattle.longest_path.proofs.Reach.{same_some}
use Rattle.longest_path.proofs.Weights.{square_of, IsSquare-inside}
use Rattle.lemma_proof.specs.Heads.{table_rows}
use Rattle.lemma_proof.proofs.Rows.{IsFullRow, row_at}
use Rattle.lemma_proof.proofs.rise.raise_to.Goals as goal

pub raise-requires-clause-wide : goal.raise-requires-clause-wide
raise-requires-clause-wide c =
    let row : IsFullRow (table_rows c.args.table.now) c.args.to c.index-table-to.result.items =
    row_at c.args.table.now (table_rows c.args.table.now) c.args.to c.index-table-to.result refl
    c.requires.table.matrix c.requires.to_activity c.index-table-to.is in
    c.requires.long ∙ sym row.long ∙ ap length (sym c.as_slice.ensures.value)

pub raise-requires-clause-via : goal.raise-requires-clause-via
raise-requires-clause-via c = λ k low.
    let row : IsFullRow (table_rows c.args.table.now) c.args.to c.index-table-to.result.items =
    row_at c.args.table.now (table_rows c.args.table.now) c.args.to c.index-table-to.result refl
    c.requires.table.matrix c.requires.to_activity c.index-table-to.is in
    let near : k < length c.index-table-to.result.items = rw c.as_slice.ensures.value at low in
    rw c.as_slice.ensures.value (row.small k (rw row.long at near))

pub returns : goal.returns
returns c =
    let rows = table_rows c.args.table.now in
    let row : IsFullRow (table_rows c.args.table.now) c.args.to c.index-table-to.result.items =
    row_at c.args.table.now (table_rows c.args.table.now) c.args.to c.index-table-to.result refl
    c.requires.table.matrix c.requires.to_activity c.index-table-to.is in
    let small = c.requires.small in
    let wide_fits : SFits w64 c.args.way = c.ranges.way in
    let fits : SFits w32 c.args.way = omega (arith, ints, small.at_least, small.at_most) in
    record {
      long = c.raise.ensures.wide;
      raised = λ k y is.
          let ends = IsSquare-inside (length (table_rows c.args.table.now)) c.args.to k y (table_rows c.args.table.now)
          (square_of (table_rows c.args.table.now) c.requires.table.matrix) is in
          let same : start c.index-table-to.result.items k ≡ y =
          same_some (start c.index-table-to.result.items k) y (entry (table_rows c.args.table.now) c.args.to k)
          (row.says k ends.1) is in
          let near : k < length c.args.there.now = rw c.requires.long ends.1 in
          let here : start c.raise.new.row k ≡ int_max (start c.args.there.now k)
          (c.args.way +ℤ start c.index-table-to.result.items k) =
          rw c.as_slice.ensures.value at (simp to_z-of_z at (c.raise.ensures.raised k near)) in
          here ∙ ap (λ (z : ℤ). int_max (start c.args.there.now k) (c.args.way +ℤ z)) same;
    }
