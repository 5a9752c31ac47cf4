use Rattle.std.proofs.Common.{◌≡◌, List, length, is_some, not}
use Rattle.network.specs.declared.parts.Lag.{Lag}
use Rattle.network.specs.Walk.{IsMatrixOf}
use Rattle.lemma_proof.specs.Bench.{Holds, IsKnownOf, IsMatrixOfAll}
use Rattle.lemma_proof.proofs.Held.{all_made, held_settled}
use Rattle.lemma_proof.proofs.Wide.{on_both}
use Rattle.lemma_proof.proofs.bench.Bench.settle.Goals as goal

pub returns-clause-all : goal.returns-clause-all
returns-clause-all c =
    let old = c.args.self.now in
    let new = c.make_dense.new.self in
    on_both c.make_dense.result
    ((own : List Lag) → IsMatrixOf (length c.args.self.now.rows) own c.args.self.now.rows
    → IsKnownOf (length c.args.self.now.rows) own c.args.self.now.more c.make_dense.new.self.is_infeasible
    c.make_dense.new.self.more c.make_dense.new.self.dense)
    (is_some c.make_dense.new.self.dense ≡ not c.make_dense.new.self.is_infeasible)
    ((own arcs : List Lag) → Holds own arcs c.args.self.now → IsMatrixOfAll (length c.args.self.now.rows) own arcs c.make_dense.new.self.dense)
    (λ known there own arcs h. all_made own arcs old new c.requires.live c.requires.none h known there)
    c.make_dense.ensures.made c.make_dense.ensures.there

pub returns-clause-kept : goal.returns-clause-kept
returns-clause-kept c =
    let old = c.args.self.now in
    let new = c.make_dense.new.self in
    on_both c.make_dense.result
    ((own : List Lag) → IsMatrixOf (length c.args.self.now.rows) own c.args.self.now.rows
    → IsKnownOf (length c.args.self.now.rows) own c.args.self.now.more c.make_dense.new.self.is_infeasible
    c.make_dense.new.self.more c.make_dense.new.self.dense)
    (is_some c.make_dense.new.self.dense ≡ not c.make_dense.new.self.is_infeasible)
    ((own arcs : List Lag) → Holds own arcs c.args.self.now → Holds own arcs c.make_dense.new.self)
    (λ known there own arcs h. held_settled own arcs old new c.requires.live c.requires.none h known c.make_dense.ensures.rows)
    c.make_dense.ensures.made c.make_dense.ensures.there
