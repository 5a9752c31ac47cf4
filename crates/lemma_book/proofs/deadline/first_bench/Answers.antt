use Rattle.std.proofs.Common.{◌≡◌, ap, rules, w64, SFits}
use Rattle.std.proofs.lemmas.Int.{to_z-of_z}
use Rattle.longest_path.specs.Insert.{AddsArc, ClosesCycle}
use Rattle.longest_path.specs.Saved.{Marked}
use Rattle.lemma_proof.specs.Lines.{IsArc}
use Rattle.lemma_book.specs.Ledger.{deadline}
use Rattle.lemma_book.proofs.Deadlines.{fills_first, first_dead, first_full, first_matrix, deadline_dead}
use Rattle.lemma_book.proofs.deadline.first_bench.Goals as goal

pub returns-in-Err-PositiveCycle : goal.returns-in-Err-PositiveCycle
returns-in-Err-PositiveCycle c =
    let least = rw c.in-Err-PositiveCycle.field-0-is at c.in-Err-PositiveCycle.ensures.fault in
    first_dead c.args.project.now c.args.bound _ least

pub take-requires-clause-fills : goal.take-requires-clause-fills
take-requires-clause-fills c =
    let fits : SFits w64 c.args.bound = search rules in
    let arc : c.deadline.result ≡ deadline c.args.project.now c.args.bound = simp to_z-of_z at c.deadline.ensures.arc in
    let rows : c.new-matrix.result.rows ≡ c.in-Ok.matrix = ap (λ (m : Marked). m.rows) c.new-matrix.ensures in
    let lag : IsArc c.args.project.now (deadline c.args.project.now c.args.bound) = rw arc at c.deadline.ensures.inside in
    rw (arc, rows) (fills_first c.args.project.now c.in-Ok.matrix c.args.bound c.deadline.ensures.limits c.in-Ok.ensures.matrix lag)

pub returns-then-branch : goal.returns-then-branch
returns-then-branch c =
    let fits : SFits w64 c.args.bound = search rules in
    let arc : c.deadline.result ≡ deadline c.args.project.now c.args.bound = simp to_z-of_z at c.deadline.ensures.arc in
    let rows : c.new-matrix.result.rows ≡ c.in-Ok.matrix = ap (λ (m : Marked). m.rows) c.new-matrix.ensures in
    let closed = rw c.if-branch.true at c.in_ok-take.ensures.taken in
    let closes : ClosesCycle (deadline c.args.project.now c.args.bound) c.in-Ok.matrix = rw (arc, rows) at closed.0 in
    deadline_dead c.args.project.now c.args.bound c.in-Ok.matrix c.in-Ok.ensures.matrix closes

pub new-requires-clause-full : goal.new-requires-clause-full
new-requires-clause-full c =
    let fits : SFits w64 c.args.bound = search rules in
    let arc : c.deadline.result ≡ deadline c.args.project.now c.args.bound = simp to_z-of_z at c.deadline.ensures.arc in
    let lag : IsArc c.args.project.now (deadline c.args.project.now c.args.bound) = rw arc at c.deadline.ensures.inside in
    let rows : c.new-matrix.result.rows ≡ c.in-Ok.matrix = ap (λ (m : Marked). m.rows) c.new-matrix.ensures in
    let added = rw c.if-branch.false at c.in_ok-take.ensures.taken in
    let adds : AddsArc (deadline c.args.project.now c.args.bound) c.in-Ok.matrix c.take.new.matrix.rows = rw (arc, rows) at added.0 in
    first_full c.args.project.now c.args.bound c.in-Ok.matrix c.take.new.matrix.rows c.deadline.ensures.limits c.in-Ok.ensures.matrix lag adds

pub returns : goal.returns
returns c =
    let fits : SFits w64 c.args.bound = search rules in
    let arc : c.deadline.result ≡ deadline c.args.project.now c.args.bound = simp to_z-of_z at c.deadline.ensures.arc in
    let rows : c.new-matrix.result.rows ≡ c.in-Ok.matrix = ap (λ (m : Marked). m.rows) c.new-matrix.ensures in
    let added = rw c.if-branch.false at c.in_ok-take.ensures.taken in
    let adds : AddsArc (deadline c.args.project.now c.args.bound) c.in-Ok.matrix c.take.new.matrix.rows = rw (arc, rows) at added.0 in
    rw c.in_ok-new.ensures.rows (first_matrix c.args.project.now c.args.bound c.in-Ok.matrix c.take.new.matrix.rows c.in-Ok.ensures.matrix adds)
