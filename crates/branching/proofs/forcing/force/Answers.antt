use Rattle.std.proofs.Common.{◌≡◌, ap, ◌∙◌, rules, ◌++◌, ◌∷◌, [], List, w64, SFits}
use Rattle.std.proofs.lemmas.Int.{to_z-of_z}
use Rattle.network.specs.declared.parts.Pair.{Pair}
use Rattle.network.specs.Problem.{Problem, pair_arc}
use Rattle.network.specs.Walk.{Rows}
use Rattle.longest_path.specs.Insert.{AddsArc, IsInsertFault}
use Rattle.branching.specs.Subproblem.{BaseOf}
use Rattle.forbidden_sets.specs.Incompatible.{AreIncompatible, AllIncompatible, pairs_of, AreRowsOf}
use Rattle.branching.specs.Forcing.{IsFirstForced}
use Rattle.branching.proofs.Forcings.{both_named, one_forced, infeasible_forced, first_among, first_incompatible, rows_incompatible}
use Rattle.branching.proofs.Paths.{matrix_more}
use Rattle.branching.proofs.Rounds.{fewer_left}
use Rattle.branching.proofs.forcing.force.Goals as goal
use Rattle.branching.proofs.forcing.force.Goals.{After-deref-in-Some}

-- the next pair, among those that can't run at the same time
record IsNext (p : Problem) (rows : Rows) (pairs : List Pair) (pair : Pair) : Type 0 where
  incompatible : AllIncompatible p pairs
  first : IsFirstForced p rows pairs pair
  apart : AreIncompatible p pair

next : (c : After-deref-in-Some) → IsNext c.args.node.now.project c.loop-pair.matrix.rows (pairs_of c.incompatible-incompatible.result.now) c.in-Some.pair
next c =
    let p : Problem = c.args.node.now.project in
    let pairs : List Pair = pairs_of c.incompatible-incompatible.result.now in
    let rows : AreRowsOf p c.incompatible-incompatible.result.now =
    rw (ap (λ (b : BaseOf). b.project) c.deref.ensures ∙ c.base.ensures) at c.incompatible-incompatible.ensures in
    let incompatible : AllIncompatible p pairs = rows_incompatible p c.incompatible-incompatible.result.now rows in
    let same : c.deref-in-loop-pair.result.now ≡ p = c.deref-in-loop-pair.ensures ∙ c.project.ensures.project in
    let first : IsFirstForced p c.loop-pair.matrix.rows pairs c.in-Some.pair = rw (same, c.matrix.ensures) at c.in-Some.ensures in
    record { incompatible = incompatible; first = first; apart = first_incompatible p c.loop-pair.matrix.rows pairs c.in-Some.pair incompatible first }

pub pair_arc-arc-requires : goal.pair_arc-arc-requires
pair_arc-arc-requires c = rw (c.deref-in-Some.ensures ∙ c.project-in-Some.ensures.project) (both_named c.args.node.now.project c.in-Some.pair (next c).apart)

pub loop-pair-smaller : goal.loop-pair-smaller
loop-pair-smaller c =
    let p : Problem = c.args.node.now.project in
    let pair : Pair = c.in-Some.pair in
    let n = next (goal.at.loop-pair-smaller c).After-deref-in-Some in
    let arc : c.pair_arc-arc.result ≡ pair_arc p pair = rw (c.deref-in-Some.ensures ∙ c.project-in-Some.ensures.project) at c.pair_arc-arc.ensures.arc in
    let fits : SFits w64 c.pair_arc-arc.result.weight = search rules in
    let adds : AddsArc c.pair_arc-arc.result c.loop-pair.matrix.rows c.insert.new.self.rows = simp to_z-of_z at c.in-Ok.ensures.ok in
    let so_far : List Pair = (c.args.node.now.pairs ++ c.args.first ∷ []) ++ c.loop-pair.forced.items in
    let more = matrix_more p so_far pair c.loop-pair.matrix.rows c.insert.new.self.rows
    c.loop-pair.invariant.forced.matrix (both_named p pair n.apart) (rw arc at adds) in
    fewer_left p so_far pair c.loop-pair.matrix.rows c.insert.new.self.rows
    (pairs_of c.incompatible-incompatible.result.now) c.loop-pair.invariant.forced.matrix more n.incompatible
    (first_among p c.loop-pair.matrix.rows (pairs_of c.incompatible-incompatible.result.now) pair n.first)
    n.first.forced n.apart

pub loop-pair-preserved : goal.loop-pair-preserved
loop-pair-preserved c =
    let n = next (goal.at.loop-pair-preserved c).After-deref-in-Some in
    let arc : c.pair_arc-arc.result ≡ pair_arc c.args.node.now.project c.in-Some.pair =
    rw (c.deref-in-Some.ensures ∙ c.project-in-Some.ensures.project) at c.pair_arc-arc.ensures.arc in
    let fits : SFits w64 c.pair_arc-arc.result.weight = search rules in
    let adds : AddsArc c.pair_arc-arc.result c.loop-pair.matrix.rows c.insert.new.self.rows = simp to_z-of_z at c.in-Ok.ensures.ok in
    record {
      marks = c.insert.ensures.marks ∙ c.loop-pair.invariant.marks;
      forced = rw c.in_ok-push.ensures.items
          (one_forced c.args.node.now.project (c.args.node.now.pairs ++ c.args.first ∷ []) c.loop-pair.forced.items
          c.in-Some.pair c.loop-pair.matrix.rows c.insert.new.self.rows c.loop-pair.invariant.forced n.apart
          n.first.forced (rw arc at adds));
    }

pub returns-in-Err-PositiveCycle-clause-forcing : goal.returns-in-Err-PositiveCycle-clause-forcing
returns-in-Err-PositiveCycle-clause-forcing c =
    let n = next (goal.at.returns-in-Err-PositiveCycle-clause-forcing c).After-deref-in-Some in
    let arc : c.pair_arc-arc.result ≡ pair_arc c.args.node.now.project c.in-Some.pair =
    rw (c.deref-in-Some.ensures ∙ c.project-in-Some.ensures.project) at c.pair_arc-arc.ensures.arc in
    let fits : SFits w64 c.pair_arc-arc.result.weight = search rules in
    let fault : IsInsertFault c.pair_arc-arc.result c.loop-pair.matrix.rows c.in-Err-PositiveCycle.field-0 =
    simp to_z-of_z at c.in-Err-PositiveCycle.ensures.fault in
    let cycle = rw (c.in-Err-PositiveCycle.field-0-is, arc) at fault in
    rw c.in_ok-push.ensures.items (infeasible_forced c.args.node.now c.args.first c.loop-pair.forced.items
    c.in-Some.pair c.loop-pair.matrix.rows c.loop-pair.invariant.forced n.apart n.first.forced cycle.1)
