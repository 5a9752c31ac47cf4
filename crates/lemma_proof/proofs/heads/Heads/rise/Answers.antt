use Rattle.std.proofs.Common.{◌≡◌, sym, arith, length}
use Rattle.lemma_proof.specs.Heads.{table_rows}
use Rattle.lemma_proof.specs.Rising.{IsRisenBy}
use Rattle.lemma_proof.proofs.Passing.{each_light}
use Rattle.lemma_proof.proofs.Rows.{written}
use Rattle.lemma_proof.proofs.heads.Heads.rise.Goals as goal

pub rise-requires-clause-arcs_light : goal.rise-requires-clause-arcs_light
rise-requires-clause-arcs_light c = rw (c.as_slice.ensures.value, c.as_slice-2.ensures.value)
    (each_light (length (table_rows c.self.inside.table.items)) c.self.inside.arcs.items c.self.invariant.arcs_light)

pub returns-clause-told : goal.returns-clause-told
returns-clause-told c =
    let many = c.self.invariant.heads_long in
    let long : length c.rise.new.there ≡ length (table_rows c.self.inside.table.items) = rw c.as_slice.ensures.value at c.rise.ensures.risen.both.long in
    let whole : c.self.inside.heads.len ≡ length c.rise.new.there = omega (arith, long, many) in
    let told : IsRisenBy c.args.arc c.self.inside.arcs.items c.args.back.now c.self.inside.heads.items c.rise.new.there
    c.rise.result = rw (c.as_slice-2.ensures.value, c.as_mut_slice.ensures.value) at c.rise.ensures.told in
    rw (written c.self.inside.heads.len c.self.inside.heads.items c.rise.new.there whole, sym c.self.view_is) told
