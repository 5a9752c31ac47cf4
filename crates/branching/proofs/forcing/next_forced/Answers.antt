use Rattle.std.proofs.Common.{◌≤◌, length, take_all}
use Rattle.std.specs.List.{All}
use Rattle.branching.specs.Forcing.{IsForcedIn}
use Rattle.forbidden_sets.specs.Incompatible.{pairs_of}
use Rattle.branching.proofs.Forcings.{all_more, first_of_rows}
use Rattle.branching.proofs.forcing.next_forced.Goals as goal

pub returns-in-Some : goal.returns-in-Some
returns-in-Some c = first_of_rows c.args.project.now c.args.matrix.now c.args.incompatible.now c.loop-row.row-index
    c.row-item.result c.in-Some.pair c.loop-row-test.true c.loop-row.invariant (rw c.row-item.is at c.in-Some.ensures)

pub loop-row-preserved : goal.loop-row-preserved
loop-row-preserved c = all_more (λ pair. ¬ IsForcedIn c.args.project.now c.args.matrix.now pair) c.args.incompatible.now
    c.loop-row.row-index c.row-item.result c.loop-row-test.true c.loop-row.invariant
    (rw c.row-item.is at c.in_default.ensures)

pub returns : goal.returns
returns c =
    let past : length c.args.incompatible.now ≤ c.loop-row.row-index = c.loop-row-test.false in
    let all : All (λ pair. ¬ IsForcedIn c.args.project.now c.args.matrix.now pair) (pairs_of c.args.incompatible.now) =
    rw (take_all c.loop-row.row-index c.args.incompatible.now past) at c.loop-row.invariant in
    all
