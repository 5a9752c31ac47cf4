use Rattle.std.proofs.Common.{refl, ◌≤◌, length, take_all}
use Rattle.std.specs.List.{All}
use Rattle.branching.specs.Forcing.{IsForcedWith}
use Rattle.forbidden_sets.specs.Incompatible.{pairs_of}
use Rattle.branching.proofs.Forcings.{unless, when, all_more, none_in_row, none_of_all, some_of_rows}
use Rattle.branching.proofs.forcing.forces_some.Goals as goal

pub returns-then-forces_in_row : goal.returns-then-forces_in_row
returns-then-forces_in_row c = (
  λ test. some_of_rows (IsForcedWith c.args.project.now c.args.matrix.now c.args.added) c.args.incompatible.now
      c.loop-row.row-index c.row-item.result c.loop-row-test.true
      (when c.forces_in_row.result _ c.if-forces_in_row.true (rw c.row-item.is at c.forces_in_row.ensures)),
  λ some. refl,
)

pub loop-row-preserved : goal.loop-row-preserved
loop-row-preserved c =
    all_more (λ pair. ¬ IsForcedWith c.args.project.now c.args.matrix.now c.args.added pair) c.args.incompatible.now
    c.loop-row.row-index c.row-item.result c.loop-row-test.true c.loop-row.invariant
    (none_in_row (IsForcedWith c.args.project.now c.args.matrix.now c.args.added) _
    (unless c.forces_in_row.result _ c.if-forces_in_row.false (rw c.row-item.is at c.forces_in_row.ensures)))

pub returns : goal.returns
returns c =
    let past : length c.args.incompatible.now ≤ c.loop-row.row-index = c.loop-row-test.false in
    let all : All (λ pair. ¬ IsForcedWith c.args.project.now c.args.matrix.now c.args.added pair)
    (pairs_of c.args.incompatible.now) = rw (take_all c.loop-row.row-index c.args.incompatible.now past) at
    c.loop-row.invariant in
    none_of_all (IsForcedWith c.args.project.now c.args.matrix.now c.args.added) (pairs_of c.args.incompatible.now) all
