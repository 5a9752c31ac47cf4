use Rattle.std.proofs.Common.{arith, ◌≡◌, ◌<◌, refl, sym, ◌∙◌, ap, length}
use Rattle.lemma_proof.specs.Heads.{IsRowAt, table_rows}
use Rattle.lemma_proof.proofs.Rows.{IsFullRow, row_at, written}
use Rattle.lemma_proof.proofs.heads.Heads.take_row.Goals as goal

pub copy_from_slice-requires : goal.copy_from_slice-requires
copy_from_slice-requires c =
    let low : c.args.a < length (table_rows c.self.inside.table.items) = rw (sym c.self.view_is) at c.requires in
    let row : IsFullRow (table_rows c.self.inside.table.items) c.args.a c.index.result.now.items =
    row_at c.self.inside.table.items (table_rows c.self.inside.table.items) c.args.a c.index.result.now refl
    c.self.invariant.table.matrix low c.index.ensures in
    let long = row.long in
    let many = c.self.invariant.tried_long in
    let from = ap length c.as_slice.ensures.value in
    let to = ap length c.as_mut_slice.ensures.value in
    omega (arith, long, many, from, to)

pub returns-clause-row : goal.returns-clause-row
returns-clause-row c =
    let low : c.args.a < length (table_rows c.self.inside.table.items) = rw (sym c.self.view_is) at c.requires in
    let row : IsFullRow (table_rows c.self.inside.table.items) c.args.a c.index.result.now.items =
    row_at c.self.inside.table.items (table_rows c.self.inside.table.items) c.args.a c.index.result.now refl
    c.self.invariant.table.matrix low c.index.ensures in
    let now : c.copy_from_slice.new.self ≡ c.index.result.now.items = c.copy_from_slice.ensures.after ∙ c.as_slice.ensures.value in
    let many = c.self.invariant.tried_long in
    let long : length c.copy_from_slice.new.self ≡ length (table_rows c.self.inside.table.items) = ap length now ∙ row.long in
    let whole : c.self.inside.tried.len ≡ length c.copy_from_slice.new.self = omega (arith, long, many) in
    let there : IsRowAt (table_rows c.self.inside.table.items) c.args.a c.index.result.now.items = record { long = row.long; says = row.says } in
    rw (written c.self.inside.tried.len c.self.inside.tried.items c.copy_from_slice.new.self whole, now, sym c.self.view_is) there
