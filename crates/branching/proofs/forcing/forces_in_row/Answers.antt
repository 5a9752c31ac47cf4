use Rattle.std.proofs.Common.{◌≡◌, refl, sym, ◌∙◌, rules, w64, ◌<◌, ◌≤◌, Some, None, length, SFits, take_all}
use Rattle.std.proofs.lemmas.Int.{to_z-of_z}
use Rattle.std.specs.List.{All}
use Rattle.network.specs.Problem.{duration, pair_arc, pair_of}
use Rattle.network.specs.Walk.{entry}
use Rattle.longest_path.specs.Matrix.{joined}
pub use Rattle.forbidden_sets.specs.declared.incompatible.Incompatible.{Incompatible}
use Rattle.branching.specs.Forcing.{IsForcedWith}
use Rattle.forbidden_sets.specs.Incompatible.{pairs_before}
use Rattle.branching.proofs.Forcings.{unless, when, no_way, none_before, none_over, none_of_all, pair_more, some_of_row, row_at, both_named}
use Rattle.branching.proofs.forcing.forces_in_row.Goals as goal
use Rattle.branching.proofs.forcing.forces_in_row.Goals.{After-then_arc}

-- the first part of the ways over the added pair's arc
first_part : (c : After-then_arc) → c.then_arc.result ≡ joined
    (entry c.args.matrix.now c.args.row.now.activity c.args.added.before)
    (Some (duration c.args.project.now c.args.added.before))
first_part c =
    let arc : c.pair_arc-arc.result ≡ pair_arc c.args.project.now c.args.added = c.pair_arc-arc.ensures.arc in
    let fits : SFits w64 c.pair_arc-arc.result.weight = search rules in
    let sum : c.then_arc.result ≡ joined c.get.result (Some c.pair_arc-arc.result.weight) = simp to_z-of_z at c.then_arc.ensures.sum in
    rw (c.get.ensures.value, arc) at sum

pub returns-in_default : goal.returns-in_default
returns-in_default c =
    let sum_is = first_part (goal.at.returns-in_default c).After-then_arc in
    let none : joined (entry c.args.matrix.now c.args.row.now.activity c.args.added.before)
    (Some (duration c.args.project.now c.args.added.before)) ≡ None = sym sum_is ∙ c.in_default.is in
    none_of_all (IsForcedWith c.args.project.now c.args.matrix.now c.args.added) (pairs_before c.args.row.now.activity c.args.row.now.others.items)
    (none_before (IsForcedWith c.args.project.now c.args.matrix.now c.args.added) c.args.row.now.activity c.args.row.now.others.items
    (λ j. no_way c.args.project.now c.args.matrix.now c.args.added (pair_of c.args.row.now.activity j)
    (none_over c.args.project.now c.args.matrix.now c.args.added (pair_of c.args.row.now.activity j) none)))

pub is_forced_over-requires-clause-pair : goal.is_forced_over-requires-clause-pair
is_forced_over-requires-clause-pair c =
    both_named c.args.project.now _ (row_at c.args.project.now c.args.row.now c.as_slice-after-items.result.now
    c.loop-after.after-index 0 c.as_slice-after-items.ensures.value c.loop-after-test.true c.requires.row)

pub is_forced_over-requires-clause-first : goal.is_forced_over-requires-clause-first
is_forced_over-requires-clause-first c =
    let first_fits : SFits w64 c.in-Some.first = search rules in
    simp to_z-of_z (sym (first_part (goal.at.is_forced_over-requires-clause-first c).After-then_arc) ∙ c.in-Some.is)

pub returns-then-is_forced_over : goal.returns-then-is_forced_over
returns-then-is_forced_over c =
    let row : Incompatible = c.args.row.now in
    let here : c.as_slice-after-items.result.now ≡ row.others.items = c.as_slice-after-items.ensures.value in
    let low : c.loop-after.after-index < length row.others.items = rw here at c.loop-after-test.true in
    let forced = when c.is_forced_over.result _ c.if-is_forced_over.true (rw here at c.is_forced_over.ensures) in (
      λ test. some_of_row (IsForcedWith c.args.project.now c.args.matrix.now c.args.added) row.activity row.others.items
          c.loop-after.after-index 0 low forced,
      λ some. refl,
    )

pub loop-after-preserved : goal.loop-after-preserved
loop-after-preserved c =
    let row : Incompatible = c.args.row.now in
    let here : c.as_slice-after-items.result.now ≡ row.others.items = c.as_slice-after-items.ensures.value in
    let low : c.loop-after.after-index < length row.others.items = rw here at c.loop-after-test.true in
    let not_forced = unless c.is_forced_over.result _ c.if-is_forced_over.false (rw here at c.is_forced_over.ensures) in
    pair_more (λ pair. ¬ IsForcedWith c.args.project.now c.args.matrix.now c.args.added pair) row.activity
    row.others.items c.loop-after.after-index 0 low c.loop-after.invariant not_forced

pub returns : goal.returns
returns c =
    let row : Incompatible = c.args.row.now in
    let past : length row.others.items ≤ c.loop-after.after-index = rw c.as_slice-after-items.ensures.value at c.loop-after-test.false in
    let all : All (λ pair. ¬ IsForcedWith c.args.project.now c.args.matrix.now c.args.added pair)
    (pairs_before row.activity row.others.items) =
    rw (take_all c.loop-after.after-index row.others.items past) at c.loop-after.invariant in
    none_of_all (IsForcedWith c.args.project.now c.args.matrix.now c.args.added) (pairs_before row.activity row.others.items) all
