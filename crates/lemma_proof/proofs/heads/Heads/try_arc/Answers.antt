use Rattle.std.proofs.Common.{length}
use Rattle.lemma_proof.specs.Heads.{table_rows}
use Rattle.lemma_proof.proofs.Passing.{each_light}
use Rattle.lemma_proof.proofs.heads.Heads.try_arc.Goals as goal

pub rise-told-requires-clause-arcs_light : goal.rise-told-requires-clause-arcs_light
rise-told-requires-clause-arcs_light c =
    rw (c.as_slice.ensures.value, c.as_slice-2.ensures.value)
    (each_light (length (table_rows c.self.inside.table.items)) c.self.inside.arcs.items c.self.invariant.arcs_light)
