use Rattle.std.proofs.Common.{arith, ◌≡◌, refl, sym, length}
use Rattle.longest_path.specs.Insert.{ClosesNone, rows_over}
use Rattle.longest_path.proofs.Inserted.{length-rows_over}
use Rattle.lemma_proof.specs.Heads.{HeadsOf, IsLight, table_rows}
use Rattle.lemma_proof.proofs.Rows.{table_long, written_rows}
use Rattle.lemma_proof.proofs.Rooting.{over_heads}
use Rattle.lemma_proof.proofs.heads.Heads.go_over.Goals as goal

pub invariant_of-self : goal.invariant_of-self
invariant_of-self c =
    let x : HeadsOf = record {
      rows = table_rows c.self.inside.table.items;
      arcs = c.self.inside.arcs.items;
      heads =
          c.self.inside.heads.items;
      tried = c.self.inside.tried.items;
    } in
    let light : IsLight (length (table_rows c.self.inside.table.items)) c.args.arc = rw (sym c.self.view_is) at c.requires.light in
    let none : ClosesNone c.args.arc (table_rows c.self.inside.table.items) = rw (sym c.self.view_is) at c.requires.none in
    let is : table_rows c.go_over.new.table ≡ rows_over c.args.arc (table_rows c.self.inside.table.items) =
    rw c.as_mut_slice.ensures.value at c.go_over.ensures in
    let long = table_long c.go_over.new.table (rows_over c.args.arc (table_rows c.self.inside.table.items)) is in
    let old = length-rows_over c.args.arc (table_rows c.self.inside.table.items) in
    let many = table_long c.self.inside.table.items (table_rows c.self.inside.table.items) refl in
    let whole : c.self.inside.table.len ≡ length c.go_over.new.table = omega (arith, long, old, many) in
    rw (written_rows c.self.inside.table.len c.self.inside.table.items c.go_over.new.table whole)
    (over_heads x c.args.arc (table_rows c.go_over.new.table) c.self.invariant light none is)

pub returns : goal.returns
returns c =
    let is : table_rows c.go_over.new.table ≡ rows_over c.args.arc (table_rows c.self.inside.table.items) =
    rw c.as_mut_slice.ensures.value at c.go_over.ensures in
    let long = table_long c.go_over.new.table (rows_over c.args.arc (table_rows c.self.inside.table.items)) is in
    let old = length-rows_over c.args.arc (table_rows c.self.inside.table.items) in
    let many = table_long c.self.inside.table.items (table_rows c.self.inside.table.items) refl in
    let whole : c.self.inside.table.len ≡ length c.go_over.new.table = omega (arith, long, old, many) in
    rw (written_rows c.self.inside.table.len c.self.inside.table.items c.go_over.new.table whole, is, sym c.self.view_is) refl
