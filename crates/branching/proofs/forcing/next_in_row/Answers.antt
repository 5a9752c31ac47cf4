use Rattle.std.proofs.Common.{◌≡◌, ℕ, ◌<◌, ◌≤◌, length, get_or, take_all}
use Rattle.std.specs.List.{All}
pub use Rattle.forbidden_sets.specs.declared.incompatible.Incompatible.{Incompatible}
use Rattle.branching.specs.Forcing.{IsForcedIn}
use Rattle.forbidden_sets.specs.Incompatible.{pairs_before}
use Rattle.network.specs.Problem.{pair_of}
use Rattle.branching.proofs.Forcings.{unless, when, pair_more, first_of_row, row_at, both_named}
use Rattle.branching.proofs.forcing.next_in_row.Goals as goal

pub get-requires-clause-to_activity : goal.get-requires-clause-to_activity
get-requires-clause-to_activity c = rw c.requires.size
    (row_at c.args.project.now c.args.row.now c.as_slice-after-items.result.now c.loop-after.after-index 0
    c.as_slice-after-items.ensures.value c.loop-after-test.true c.requires.row).second_named

pub is_forced_at-requires-clause-named : goal.is_forced_at-requires-clause-named
is_forced_at-requires-clause-named c =
    both_named c.args.project.now _ (row_at c.args.project.now c.args.row.now c.as_slice-after-items.result.now
    c.loop-after.after-index 0 c.as_slice-after-items.ensures.value c.loop-after-test.true c.requires.row)

pub returns-then-is_forced_at : goal.returns-then-is_forced_at
returns-then-is_forced_at c =
    let row : Incompatible = c.args.row.now in
    let i : ℕ = c.loop-after.after-index in
    let here : c.as_slice-after-items.result.now ≡ row.others.items = c.as_slice-after-items.ensures.value in
    let low : i < length row.others.items = rw here at c.loop-after-test.true in
    let forced : IsForcedIn c.args.project.now c.args.matrix.now (pair_of row.activity (get_or row.others.items i 0)) =
    when c.is_forced_at.result _ c.if-is_forced_at.true (rw (c.get.ensures.value, here) at c.is_forced_at.ensures)
    in
    rw here (first_of_row c.args.project.now c.args.matrix.now row.activity row.others.items i 0 low c.loop-after.invariant forced)

pub loop-after-preserved : goal.loop-after-preserved
loop-after-preserved c =
    let row : Incompatible = c.args.row.now in
    let i : ℕ = c.loop-after.after-index in
    let here : c.as_slice-after-items.result.now ≡ row.others.items = c.as_slice-after-items.ensures.value in
    let low : i < length row.others.items = rw here at c.loop-after-test.true in
    pair_more (λ pair. ¬ IsForcedIn c.args.project.now c.args.matrix.now pair) row.activity row.others.items i 0 low
    c.loop-after.invariant (unless c.is_forced_at.result _ c.if-is_forced_at.false
    (rw (c.get.ensures.value, here) at c.is_forced_at.ensures))

pub returns : goal.returns
returns c =
    let row : Incompatible = c.args.row.now in
    let past : length row.others.items ≤ c.loop-after.after-index = rw c.as_slice-after-items.ensures.value at c.loop-after-test.false in
    let all : All (λ pair. ¬ IsForcedIn c.args.project.now c.args.matrix.now pair)
    (pairs_before row.activity row.others.items) =
    rw (take_all c.loop-after.after-index row.others.items past) at c.loop-after.invariant in
    all
