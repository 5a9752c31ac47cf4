use Rattle.std.proofs.Common.{rules, ℕ, ◌<◌, ◌≤◌, w32, w64, SFits}
use Rattle.std.proofs.lemmas.Int.{to_z-of_z}
use Rattle.longest_path.specs.Matrix.{GainsNothingAt}
use Rattle.longest_path.proofs.Cells.{walk_fits}
use Rattle.longest_path.proofs.Over.{small_arc, start_gains_nothing}
use Rattle.longest_path.proofs.columns.gaining_columns.Goals as goal

pub first_gain-from-requires-clause-fits : goal.first_gain-from-requires-clause-fits
first_gain-from-requires-clause-fits c =
    let wide : SFits w64 c.args.arc.weight = search rules in
    let fits : SFits w32 c.args.arc.weight = walk_fits c.args.arc.weight c.requires.ready.light in
    simp to_z-of_z (small_arc c.args.arc c.args.via.now c.args.grid.now c.requires.ready c.requires.via)

pub end_of_gains-end-requires-clause-fits : goal.end_of_gains-end-requires-clause-fits
end_of_gains-end-requires-clause-fits c =
    let wide : SFits w64 c.args.arc.weight = search rules in
    let fits : SFits w32 c.args.arc.weight = walk_fits c.args.arc.weight c.requires.ready.light in
    simp to_z-of_z (small_arc c.args.arc c.args.via.now c.args.grid.now c.requires.ready c.requires.via)

pub returns-clause-before : goal.returns-clause-before
returns-clause-before c = λ b lt.
    let wide : SFits w64 c.args.arc.weight = search rules in
    let fits : SFits w32 c.args.arc.weight = walk_fits c.args.arc.weight c.requires.ready.light in
    let none : (k : ℕ) → k < c.first_gain-from.result
    → GainsNothingAt c.args.arc.weight c.args.via.now c.row-row.result.now k =
    simp to_z-of_z at c.first_gain-from.ensures.before in
    start_gains_nothing c.args.arc c.row-row.result.now c.args.via.now c.args.grid.now b c.row-row.ensures c.requires.via (none b lt)

pub returns-clause-after : goal.returns-clause-after
returns-clause-after c = λ b le.
    let wide : SFits w64 c.args.arc.weight = search rules in
    let fits : SFits w32 c.args.arc.weight = walk_fits c.args.arc.weight c.requires.ready.light in
    let none : (k : ℕ) → c.end_of_gains-end.result ≤ k
    → GainsNothingAt c.args.arc.weight c.args.via.now c.row-row.result.now k =
    simp to_z-of_z at c.end_of_gains-end.ensures.after in
    start_gains_nothing c.args.arc c.row-row.result.now c.args.via.now c.args.grid.now b c.row-row.ensures c.requires.via (none b le)
