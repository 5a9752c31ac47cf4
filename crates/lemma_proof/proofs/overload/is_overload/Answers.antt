use Rattle.std.proofs.Common.{rules, w64, SFits}
use Rattle.std.proofs.lemmas.Int.{to_z-of_z}
use Rattle.lemma_proof.specs.Reasons.{IsClique, IsLoad, Tells}
use Rattle.lemma_proof.specs.Lines.{IsWindow}
use Rattle.lemma_proof.specs.Tours.{IsTour}
use Rattle.lemma_proof.proofs.overload.is_overload.Goals as goal

pub returns-then-is_window : goal.returns-then-is_window
returns-then-is_window c = λ exact arcs m.
    let from_fits : SFits w64 c.in-Load.from = search rules in
    let to_fits : SFits w64 c.in-Load.to = search rules in
    let window : IsWindow c.in-Load.from c.in-Load.to = simp to_z-of_z at (c.is_window.ensures.0 c.if-is_window.true) in
    let told : Tells exact c.is_load.result
    (IsLoad c.args.project.now arcs c.in-Load.resource c.in-Load.from c.in-Load.to) =
    simp to_z-of_z at (c.is_load.ensures exact arcs m) in
    rw c.in-Load.is (record { shown = λ yes. (window, told.shown yes); only = λ sure over. told.only sure over.1 })

pub returns-then-is_window-2 : goal.returns-then-is_window-2
returns-then-is_window-2 c = λ exact arcs m.
    let from_fits : SFits w64 c.in-Clique.from = search rules in
    let to_fits : SFits w64 c.in-Clique.to = search rules in
    let window : IsWindow c.in-Clique.from c.in-Clique.to = simp to_z-of_z at (c.is_window-in-Clique.ensures.0 c.if-is_window-2.true) in
    let here : Tells exact c.is_clique.result
    (IsClique c.args.project.now arcs c.in-Clique.from c.in-Clique.to c.as_slice.result.now) =
    simp to_z-of_z at (c.is_clique.ensures exact arcs m) in
    let told : Tells exact c.is_clique.result
    (IsClique c.args.project.now arcs c.in-Clique.from c.in-Clique.to c.in-Clique.members) =
    rw c.as_slice.ensures at here in
    rw c.in-Clique.is (record { shown = λ yes. (window, told.shown yes); only = λ sure over. told.only sure over.1 })

pub returns-then-is_window-3 : goal.returns-then-is_window-3
returns-then-is_window-3 c = λ exact arcs m.
    let from_fits : SFits w64 c.in-Tour.from = search rules in
    let to_fits : SFits w64 c.in-Tour.to = search rules in
    let window : IsWindow c.in-Tour.from c.in-Tour.to = simp to_z-of_z at (c.is_window-in-Tour.ensures.0 c.if-is_window-3.true) in
    let here : Tells exact c.is_tour.result
    (IsTour c.args.project.now c.args.lemmas.now arcs c.in-Tour.from c.in-Tour.to c.as_slice-intervals.result.now) =
    simp to_z-of_z at (c.is_tour.ensures exact arcs m) in
    let told : Tells exact c.is_tour.result
    (IsTour c.args.project.now c.args.lemmas.now arcs c.in-Tour.from c.in-Tour.to c.in-Tour.intervals) =
    rw c.as_slice-intervals.ensures at here in
    rw c.in-Tour.is (record { shown = λ yes. (window, told.shown yes); only = λ sure over. told.only sure over.1 })
