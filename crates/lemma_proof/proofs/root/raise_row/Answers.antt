use Rattle.std.proofs.Common.{arith, ◌≡◌, sym, ◌∙◌, ap, ℤ, [], List, length, get_or, Vec, Global}
use Rattle.std.proofs.Math.ListN.{set}
use Rattle.std.proofs.lemmas.List.{get_or-map, map-set}
use Rattle.lemma_proof.specs.Heads.{cells_of}
use Rattle.lemma_proof.specs.Rooting.{HasTakenWay}
use Rattle.lemma_proof.proofs.Rows.{written}
use Rattle.lemma_proof.proofs.root.raise_row.Goals as goal

pub returns : goal.returns
returns c =
    let same : get_or (cells_of c.args.table.now) c.args.a [] ≡ c.as_mut_slice.result.now =
    get_or-map (λ row. row.items) c.args.table.now c.args.a c.index-table-a.result [] c.requires.row ∙ sym c.as_mut_slice.ensures.value in
    let taken : HasTakenWay c.args.arc c.args.via.now (get_or (cells_of c.args.table.now) c.args.a []) c.raise_over.new.row = rw same c.raise_over.ensures in
    let here : get_or c.args.table.now c.args.a c.index-table-a.result ≡ c.index-table-a.result = sym c.index-table-a.is in
    let items = ap length (c.as_mut_slice.ensures.value ∙ ap (λ (row : Vec ℤ Global). row.items) here) in
    let long = c.raise_over.ensures.long in
    let whole : c.index-table-a.result.len ≡ length c.raise_over.new.row = omega (arith, long, items) in
    let all = written (get_or c.args.table.now c.args.a c.index-table-a.result).len
    (get_or c.args.table.now c.args.a c.index-table-a.result).items c.raise_over.new.row
    (ap (λ (row : Vec ℤ Global). row.len) here ∙ whole) in (
      c.raise_over.new.row,
      map-set (λ (row : Vec ℤ Global). row.items) c.args.table.now c.args.a _
          ∙ ap (λ (row : List ℤ). set (cells_of c.args.table.now) c.args.a row) all,
      taken,
    )
