use Rattle.std.proofs.Common.{rules, w64, length, ◌<◌, ◌∙◌, SFits}
use Rattle.std.proofs.lemmas.Int.{to_z-of_z}
use Rattle.std.specs.Arc.{arc_value}
use Rattle.std.proofs.lemmas.List.{map-append, take_more}
use Rattle.network.specs.declared.parts.Pair.{Pair}
use Rattle.branching.specs.Fates.{fate_value}
use Rattle.branching.proofs.Again.{named_one}
use Rattle.branching.proofs.Fates.{fate_child, fate_infeasible, fate_cut}
use Rattle.branching.proofs.branches.branches_of.Goals as goal
use Rattle.branching.proofs.branches.branches_of.Goals.{in-Child+in_ok-parent-in-Child+in_ok-with_pairs-in-Child+in_ok-push-in-Child, in-Infeasible, in-Cut}

pub branch_of-requires-clause-named : goal.branch_of-requires-clause-named
branch_of-requires-clause-named c =
    let none : Pair = record { before = 0; after = 0 } in
    named_one c.args.node.now.project c.args.pairs.now c.loop-pair.pair-index none c.loop-pair-test.true c.requires.named

pub loop-pair-preserved : goal.loop-pair-preserved
loop-pair-preserved c =
    let none : Pair = record { before = 0; after = 0 } in
    let lt : c.loop-pair.pair-index < length c.args.pairs.now = c.loop-pair-test.true in
    let more = take_more c.args.pairs.now c.loop-pair.pair-index none lt in
    let pushed = c.in_ok-push.ensures.items in
    record {
      unchanged = c.branch_of.ensures.unchanged ∙ c.loop-pair.invariant.unchanged;
      bounds = c.branch_of.ensures.bounds ∙ c.loop-pair.invariant.bounds;
      parent = elim c.match-branch-2.branch [
        | in-Child+in_ok-parent-in-Child+in_ok-with_pairs-in-Child+in_ok-push-in-Child w ↦ rw w.made-is w.parent_of.ensures.made
        | in-Infeasible w ↦ rw w.made-is c.loop-pair.invariant.parent
        | in-Cut w ↦ rw w.made-is c.loop-pair.invariant.parent
      ];
      fates = elim c.match-branch-2.branch [
        | in-Child+in_ok-parent-in-Child+in_ok-with_pairs-in-Child+in_ok-push-in-Child w ↦
            let made = rw w.in-Child.is at c.in_ok-child.ensures.branch in
            let fits : SFits w64 w.in-Child.child.bound = search rules in
            let is = simp to_z-of_z at w.in_ok-with_pairs-in-Child.ensures in
            rw (
              more,
              pushed,
              w.fate-is,
              w.children-is,
              w.in_ok-push-in-Child.ensures.items,
              map-append fate_value c.loop-pair.fates.items,
              map-append arc_value c.loop-pair.children.items,
              is,
            )
            (fate_child _ _ _ _ _ _ _ c.loop-pair.invariant.fates made.0 made.1)
        | in-Infeasible w ↦
            let made = rw w.in-Infeasible.is at c.in_ok-child.ensures.branch in
            rw (more, pushed, w.fate-is, w.children-is, map-append fate_value c.loop-pair.fates.items)
            (fate_infeasible _ _ _ _ _ _ _ c.loop-pair.invariant.fates made)
        | in-Cut w ↦
            let made = rw w.in-Cut.is at c.in_ok-child.ensures.branch in
            rw (more, pushed, w.fate-is, w.children-is, map-append fate_value c.loop-pair.fates.items) (fate_cut _ _ _ _ _ _ _ c.loop-pair.invariant.fates made)
      ];
    }
